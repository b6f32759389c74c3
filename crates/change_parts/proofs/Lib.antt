pub mod PartLaws
pub mod FollowerLaws
pub mod WindowTurns
