pub mod Faults
pub mod Words
pub mod State
pub mod Calls
pub mod Make
pub mod Questions
pub mod History
pub mod Ledger
