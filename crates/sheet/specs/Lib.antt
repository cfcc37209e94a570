pub mod Answers
pub mod Causes
pub mod Desks
pub mod Heads
pub mod Replies
pub mod Sheets
