-- What the proofs of several functions use, and callers' proofs cite.
pub mod Stacks
pub mod LevelWrites
pub mod LevelReads
