-- What the small functions on numbers mean. Definitions, and `Laws` with what holds of them.
pub mod Le
pub mod Floats
pub mod Lists
pub mod Literals
pub mod Laws
