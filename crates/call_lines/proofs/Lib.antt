-- What the proofs of several functions use; theorems on pieces of the input and on refusals 3 and 4.
pub mod RunLaws
pub mod Pieces
pub mod Refused
