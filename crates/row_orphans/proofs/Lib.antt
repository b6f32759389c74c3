pub mod KeyLaws
pub mod MaskLaws
pub mod CountLaws
