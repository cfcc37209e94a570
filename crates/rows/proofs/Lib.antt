pub mod Cutting
pub mod Finding
pub mod Naming
