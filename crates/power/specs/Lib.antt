pub mod Hours
pub mod Classes
pub mod Power
pub mod Monthly
pub mod HourLaws
pub mod PowerLaws
pub mod Periods
pub mod Tables
