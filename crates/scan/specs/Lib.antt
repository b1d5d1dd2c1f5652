-- What the reading of a text promises.
pub mod TextState
