pub mod Figures
pub mod Sums
pub mod Statements
pub mod Journals
