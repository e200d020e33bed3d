-- Exact sums: what the limbs stand for, what a float's exact number is, and what adding to a kept sum leaves. Definitions, and `Laws` with what holds of them.
pub mod Limbs
pub mod Exact
pub mod Net
pub mod Kept
pub mod Rows
pub mod Sums
pub mod Laws
