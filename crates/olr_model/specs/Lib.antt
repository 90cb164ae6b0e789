pub mod Hashing
pub mod Edits
pub mod Ends
