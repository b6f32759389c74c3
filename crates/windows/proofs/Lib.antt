pub mod DayLaws
mod WindowLaws
pub mod KeyDays
pub mod LeftDays
