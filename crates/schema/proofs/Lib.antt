-- Laws of the definitions, which the proofs of functions and of other crates cite.
pub mod RangeLaws
pub mod RangeChains
pub mod ListLaws
pub mod MaskLaws
pub mod CheckLaws
pub mod Formed
pub mod SchemaLaws
pub mod KeyLaws
pub mod FieldLaws
pub mod SizeLaws
pub mod Example
