pub mod Taking
pub mod Choices
