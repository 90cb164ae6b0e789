pub mod Along
pub mod Runs
pub mod Choice
pub mod ResolvedLines
pub mod Extends
pub mod KeptPoints
pub mod Referring
pub mod Reuse
