-- What the proofs of several functions use, and callers' proofs cite.
pub mod Magnitudes
pub mod SumLaws
pub mod KeptSmall
