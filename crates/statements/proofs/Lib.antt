pub mod StatementLaws
pub mod TallyEnds
pub mod FoundLaws
pub mod Ends
