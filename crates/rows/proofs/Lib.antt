pub mod ChainLaws
pub mod CellLaws
pub mod SoughtLaws
pub mod FoldLaws
pub mod MaskLaws
pub mod ColumnLaws
pub mod TableLaws
pub mod ActionLaws
