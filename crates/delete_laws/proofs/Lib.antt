pub mod KeyShapes
pub mod ClearedColumns
pub mod BoundLaws
pub mod ClearedRow
pub mod Falling
pub mod DeleteBound
