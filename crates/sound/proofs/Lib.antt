-- What the proofs of this crate share.
pub mod Parts
pub mod Turn
pub mod Sums
pub mod Whole
pub mod Laws
