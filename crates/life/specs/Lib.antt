pub mod DayCalls
pub mod Lives
pub mod Paths
pub mod Reckoned
pub mod Runs
pub mod Told
