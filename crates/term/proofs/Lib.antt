-- The laws of names lists and terms.
pub mod EntriesText
pub mod Tokens
pub mod Runs
pub mod Marks
pub mod Kept
pub mod Going
pub mod Pieces
pub mod Copies
pub mod EntryText
pub mod Outcomes
