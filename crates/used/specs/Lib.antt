pub mod Marked
pub mod Limits
pub mod Settled
pub mod ByTarget
