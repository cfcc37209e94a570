pub mod Again
pub mod Reckonings
pub mod Tellings
