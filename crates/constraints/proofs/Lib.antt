pub mod UniqueLaws
pub mod ServedLaws
