pub mod Records
pub mod Recorded
pub mod ReplyText
pub mod Words
