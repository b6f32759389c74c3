pub mod Days
pub mod WindowKey
