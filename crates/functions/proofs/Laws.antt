-- Bounds says what holds of exp, ln and sin; the others are the way to it that rests on their words. They stand here, and not in specs/Laws, so that a definition with a wrong word is refused for its bound.
pub mod Bounds
pub mod ExpLaw
pub mod SinLaw
pub mod LnLaw
