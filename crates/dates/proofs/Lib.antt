pub mod Below
pub mod MonthLaws
pub mod DateLaws
