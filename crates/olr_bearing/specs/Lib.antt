pub mod Ranges
pub mod Legs
pub mod Turned
