-- What holds of the runs and the refusals, and of every call: read proofs/Laws/Promises.
pub mod Runs
pub mod Refusals
pub mod Spreads
pub mod Numbers
