pub mod DaySheet
