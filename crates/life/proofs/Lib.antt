pub mod Callings
pub mod Lines
