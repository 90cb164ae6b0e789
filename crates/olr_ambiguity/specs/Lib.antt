pub mod Places
pub mod OwnLines
pub mod Grids
pub mod Causes
