pub mod Chain
pub mod Walk
pub mod Marks
pub mod Kept
pub mod States
pub mod Prepared
