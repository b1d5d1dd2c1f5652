pub mod Marks
pub mod Walk
pub mod Turn
pub mod Pass
pub mod Beyond
pub mod Settling
pub mod Clearing
