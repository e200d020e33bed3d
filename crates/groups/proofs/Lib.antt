-- What the proofs of the functions share.
pub mod Tags
pub mod Walk
pub mod Numbers
pub mod Passed
pub mod Told
