pub mod SettleLaws
pub mod KeptLaws
