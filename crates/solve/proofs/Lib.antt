-- What the proofs of the functions share.
pub mod Sizes
pub mod Search
pub mod Lanes
pub mod Columns
pub mod Listed
pub mod Zeros
pub mod Terms
pub mod Unknowns
