pub mod Folding
pub mod Summing
pub mod Running
pub mod Trees
pub mod Tables
