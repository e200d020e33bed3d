-- What is proved of a call. Read proofs/Laws/Demand first.
pub mod Engine
pub mod Lengths
pub mod Promises
pub mod NoSine
pub mod Numbers
pub mod Inductors
