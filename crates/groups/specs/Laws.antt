-- What is proved of the groups' definitions.
pub mod Passing
pub mod Quiet
pub mod Listed
pub mod Stamping
pub mod Storage
pub mod SineAtZero
pub mod Numbers
pub mod Ramp
