pub mod Held
pub mod Called
