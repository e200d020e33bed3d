-- What holds of the bytes and floats that the definitions name.
pub mod Past
pub mod Less
pub mod Held
