pub mod Again
pub mod Responses
pub mod Tests
