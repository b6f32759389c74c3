-- What the proofs of several functions use, and callers' proofs cite.
pub mod TextLaws
pub mod Examples
