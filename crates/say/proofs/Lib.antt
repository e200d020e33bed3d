-- What the proofs of this crate share, and what is proved of its definitions.
pub mod Laws
