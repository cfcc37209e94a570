pub mod Longest
pub mod Wording
pub mod Years
