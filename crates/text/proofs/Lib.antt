pub mod FirstLine
pub mod Minus
pub mod ReadDigits
