-- What the check of a names list and the search for a name promise.
pub mod NamesIndex
pub mod Walk
