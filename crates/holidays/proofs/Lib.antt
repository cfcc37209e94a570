pub mod DayByDay
pub mod ReadOn
