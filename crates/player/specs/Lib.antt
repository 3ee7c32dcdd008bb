pub mod Ends
pub mod OneOutcome
