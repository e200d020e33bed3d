-- What the proofs of the functions share; and, in `Laws`, the bounds on exp, ln and sin.
pub mod Halves
pub mod Divide
pub mod Quotients
pub mod Bits
pub mod Ends
pub mod Back
pub mod Thrice
pub mod Laws
