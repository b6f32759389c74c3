pub mod Regular
pub mod Reached
pub mod UsedKeys
pub mod Windows
