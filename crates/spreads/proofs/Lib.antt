-- What the proofs of this crate share.
pub mod Turn
pub mod Whole
pub mod Laws
