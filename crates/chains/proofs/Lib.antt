pub mod First
pub mod Chains
