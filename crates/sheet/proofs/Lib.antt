-- What the proofs of this crate share.
pub mod Below
pub mod Bytes
pub mod Zeros
