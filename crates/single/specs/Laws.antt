-- What holds of a job by itself, from the engine up to the promises that callers cite.
pub mod Alone
pub mod Settled
pub mod Fits
pub mod Promises
pub mod Same
