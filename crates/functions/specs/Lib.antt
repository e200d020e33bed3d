-- What exp, ln and sin answer. Read Exp, Ln and Sin; then, in `Laws`, Values, and Bounds in proofs/Laws.
pub mod Fraction
pub mod Reduction
pub mod Words
pub mod Exp
pub mod Sin
pub mod Ln
pub mod Laws
