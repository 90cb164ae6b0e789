mod Common
pub mod Windows
pub mod Cells
pub mod Lists
pub mod NearNodes
