pub mod Comparing
pub mod Splices
