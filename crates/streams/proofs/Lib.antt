pub mod Full
pub mod Pairs
