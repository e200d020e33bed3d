-- The bench's cases, computed from the definitions.
pub mod Cases
pub mod Lie
pub mod Ramp
pub mod Inductor
pub mod Runs
