pub mod Past
pub mod Loops
pub mod Heading
