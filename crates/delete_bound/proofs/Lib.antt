pub mod MaskCounts
pub mod ClearLaws
pub mod RowBounds
pub mod TableBounds
