-- What the proofs of this crate share.
pub mod Joins
pub mod Again
pub mod Room
