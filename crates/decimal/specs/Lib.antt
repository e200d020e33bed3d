-- A float as decimal digits: what is written for it, the units and limbs on the way, and `Laws` with what holds of them.
pub mod Limbs
pub mod Scale
pub mod Shortest
pub mod Decimal
pub mod Laws
