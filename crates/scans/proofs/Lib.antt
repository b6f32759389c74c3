pub mod ScanLaws
pub mod FirstLaws
