pub mod Ring
pub mod Sums
pub mod Exact
pub mod MarginLaws
pub mod PaymentLaws
