-- What the proofs of several functions use, and callers' proofs cite.
pub mod Signed
pub mod Splice
pub mod Zeros
