pub mod Movement
pub mod Tally
