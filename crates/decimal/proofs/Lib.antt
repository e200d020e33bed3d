pub mod Value
pub mod Powers
pub mod Units
pub mod Digits
pub mod Laws
