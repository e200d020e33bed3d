-- Computed cases of solving.
pub mod Cases
