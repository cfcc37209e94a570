pub mod Markets
pub mod Quotes
pub mod Rows
pub mod Tables
pub mod Lines
pub mod Stores
pub mod Books
