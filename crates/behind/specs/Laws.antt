-- What is proved of diodes that are behind.
pub mod Quiet
pub mod Same
pub mod First
