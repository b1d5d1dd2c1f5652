-- The laws of logs.
pub mod Laws
