pub mod Places
pub mod Worked
pub mod Undone
pub mod Spare
