-- The laws of printed lines.
pub mod Decimal
pub mod Digits
pub mod Feeding
pub mod Output
pub mod Outcomes
pub mod Putting
pub mod Answering
pub mod Walking
pub mod Gathering
pub mod Run
pub mod OneLine
pub mod Samples
pub mod Either
