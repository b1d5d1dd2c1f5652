pub mod Entries
pub mod Outcomes
pub mod Counting
pub mod Taken
