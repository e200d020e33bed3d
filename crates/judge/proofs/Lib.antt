-- What the proofs of the judge share.
pub mod Every
pub mod Places
pub mod Laws
