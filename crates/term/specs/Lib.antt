-- What reading and writing a term promise.
pub mod Emit
pub mod Written
pub mod Pass
