pub mod Lent
pub mod Kept
