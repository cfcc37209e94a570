pub mod Meaning
pub mod Laws
pub mod Quantities
pub mod Chain
pub mod Listing
pub mod Heirs
pub mod Period
pub mod Day
