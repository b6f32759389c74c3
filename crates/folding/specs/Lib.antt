pub mod Masks
pub mod SameBytes
