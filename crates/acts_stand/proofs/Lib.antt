pub mod Standing
pub mod Carried
pub mod Changed
