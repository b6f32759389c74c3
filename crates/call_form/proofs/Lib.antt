-- What the proofs of several functions use, and callers' proofs cite.
pub mod WordLaws
pub mod ReadLaws
pub mod Requested
