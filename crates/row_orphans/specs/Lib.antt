pub mod RowOrphans
