-- What callers' proofs cite.
pub mod WordLaws
