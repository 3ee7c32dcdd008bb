pub mod Halves
pub mod Text
pub mod Bytes
