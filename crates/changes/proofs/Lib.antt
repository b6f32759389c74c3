pub mod CycleLaws
