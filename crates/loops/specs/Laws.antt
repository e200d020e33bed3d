-- What holds of the loops and lists that the definitions name.
pub mod Loop
pub mod Each
