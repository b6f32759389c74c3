pub mod RowCall
pub mod FoundCall
