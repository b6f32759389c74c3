pub mod ShownLaws
pub mod ListLaws
