-- The numbers that the rules name, as definitions cite them. Clients cite every name.
pub mod Causes
pub mod Kinds
pub mod Limits
pub mod Refusals
pub mod Verdicts
