pub mod Machine
pub mod RankReady
pub mod Stacked
pub mod Numbered
