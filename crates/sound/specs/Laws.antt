-- What holds of causes and refusals, and of every call: read proofs/Laws/Promises.
pub mod Refusals
pub mod Sound
pub mod Numbers
