pub mod First
pub mod Chains
pub mod Digest
