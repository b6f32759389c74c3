pub mod MaskLaws
pub mod ImageLaws
pub mod AlikeLaws
