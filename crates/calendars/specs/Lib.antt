pub mod Sets
pub mod Walks
pub mod Calendars
pub mod Refusals
pub mod Lawfulness
pub mod Counts
