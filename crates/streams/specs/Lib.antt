-- What goes through standard input and standard output.
pub mod Log
pub mod Parts
