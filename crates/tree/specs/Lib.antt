-- What the reading of entries promises.
pub mod Reading
