pub mod FirstFrom
pub mod Parts
