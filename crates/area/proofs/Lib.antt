-- What the proofs of several functions use, and callers' proofs cite.
pub mod Places
pub mod Journal
pub mod Refused
pub mod SpareLaws
