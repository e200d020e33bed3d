-- What the proofs of the exact sums share.
pub mod Carry
pub mod Words
pub mod Order
pub mod Room
pub mod Terms
