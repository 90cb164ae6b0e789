pub mod Products
pub mod Scaling
pub mod Turns
pub mod Quarters
