pub mod Standing
pub mod KeyColumns
pub mod Sought
