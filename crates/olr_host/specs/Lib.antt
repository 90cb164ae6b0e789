pub mod Names
pub mod Tracing
pub mod Places
