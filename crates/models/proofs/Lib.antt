-- What the proofs of this crate share.
pub mod Points
pub mod Laws
