pub mod Advances
pub mod CallNames
pub mod Columns
pub mod Faults
pub mod Fields
pub mod Headings
pub mod Requests
pub mod Values
