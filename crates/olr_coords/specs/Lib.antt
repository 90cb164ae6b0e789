pub mod Bounds
pub mod DegreesText
pub mod Faults
pub mod Laws
