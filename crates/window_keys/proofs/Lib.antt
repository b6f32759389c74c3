pub mod ClashLaws
pub mod OrphanLaws
pub mod LeftLaws
