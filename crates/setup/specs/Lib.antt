pub mod Closed
pub mod Faults
pub mod Setups
