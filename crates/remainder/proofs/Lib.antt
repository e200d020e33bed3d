-- Lemmas of the remainder.
pub mod Value
pub mod Remains
