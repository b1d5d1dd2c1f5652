pub mod KeptCounts
pub mod Marks
pub mod Products
pub mod Chain
pub mod Folds
pub mod States
pub mod All
pub mod Prepared
