pub mod Replying
pub mod Rows
