-- What is decided before it is written: which words, how digits stand, and how a field is written.
pub mod Words
pub mod Digits
pub mod Layout
pub mod Fields
pub mod Pens
pub mod Laws
