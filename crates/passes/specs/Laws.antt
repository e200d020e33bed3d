-- What is proved of the lengths that fit, and of the attempt.
pub mod Sized
pub mod Lent
pub mod Attempt
pub mod NoSine
pub mod Switched
