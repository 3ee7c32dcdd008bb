pub mod CardK
pub mod Table
