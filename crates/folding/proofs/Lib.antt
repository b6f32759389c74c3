pub mod Bytes
pub mod Fold
pub mod FoldLaws
