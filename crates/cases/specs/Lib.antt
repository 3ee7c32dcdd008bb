pub mod Choice
pub mod Kinds
pub mod Operations
pub mod Values
pub mod Shown
pub mod Cases
pub mod Lengths
