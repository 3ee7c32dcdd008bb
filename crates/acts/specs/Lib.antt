pub mod Ready
pub mod Leaves
