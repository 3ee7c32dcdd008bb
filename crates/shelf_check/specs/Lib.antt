pub mod Marks
pub mod Apart
pub mod Homes
pub mod Tallies
pub mod Whole
pub mod Examined
