pub mod Sums
pub mod ClassQuantities
pub mod Chains
pub mod Listings
pub mod Handovers
pub mod Made
pub mod Ranges
pub mod Sources
