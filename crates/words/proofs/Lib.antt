pub mod Lanes
pub mod Formulas
pub mod Alike
pub mod Reading
pub mod Zeros
pub mod Placing
pub mod Examples
