pub mod Families
pub mod EitherOrder
pub mod SentCalls
