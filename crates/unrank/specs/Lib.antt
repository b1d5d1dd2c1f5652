pub mod UnrankReady
pub mod Trees
pub mod Walk
pub mod Written
