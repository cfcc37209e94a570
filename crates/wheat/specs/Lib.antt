pub mod Wheat
pub mod WheatLaws
pub mod ExpiryMonths
pub mod LastDays
pub mod FrontLaws
