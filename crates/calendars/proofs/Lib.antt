pub mod CountedDays
pub mod Firsts
pub mod Rises
pub mod Steps
