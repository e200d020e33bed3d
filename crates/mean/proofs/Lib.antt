-- What the proofs of the mean share.
pub mod Words
pub mod Turns
pub mod Places
pub mod Sticky
pub mod Pattern
pub mod Rounds
