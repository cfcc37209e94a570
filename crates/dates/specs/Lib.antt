pub mod Dates
pub mod Weekdays
pub mod Written
