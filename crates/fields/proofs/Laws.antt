pub mod Writing
pub mod Halves
pub mod Fields
pub mod Text
pub mod Digits
pub mod Bytes
