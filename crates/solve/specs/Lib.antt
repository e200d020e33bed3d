-- What solving leaves, what the inner functions promise each other, and `Laws` with what holds of them.
pub mod Solve
pub mod Inner
pub mod Laws
