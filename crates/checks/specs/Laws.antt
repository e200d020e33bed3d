-- What is proved of the refusals.
pub mod Checks
pub mod Table
