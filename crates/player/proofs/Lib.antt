pub mod Rooms
pub mod Endings
pub mod Ways
pub mod OneOutcome
