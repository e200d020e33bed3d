-- What holds of the digits that are written.
pub mod Layout
