pub mod Notes
pub mod Statings
pub mod Totals
