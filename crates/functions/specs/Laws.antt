-- Values says what holds of exp, ln and sin, beside Bounds in proofs/Laws; the others are the way from the definitions to the bounds.
pub mod Values
pub mod Product
pub mod Horner
pub mod Bits64
pub mod Packed
pub mod Closing
pub mod Reduced
pub mod Fields
pub mod Leading
pub mod Ties
