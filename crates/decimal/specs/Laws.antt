-- What holds of the definitions: the decimal unit, and which float a fraction rounds to.
pub mod Units
pub mod Nearest
