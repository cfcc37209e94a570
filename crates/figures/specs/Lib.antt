pub mod Figures
pub mod Products
