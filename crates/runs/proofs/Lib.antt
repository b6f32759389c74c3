pub mod RunLaws
pub mod FreshLaws
