pub mod Steps
pub mod Amounts
pub mod SumsOfWhole
