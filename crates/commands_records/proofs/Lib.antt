pub mod Granted
pub mod Reaching
