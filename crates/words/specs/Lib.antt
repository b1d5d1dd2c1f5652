-- What the operations on eight bytes promise.
pub mod Words
