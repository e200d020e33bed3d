-- What is told of a diode that is behind. Definitions, and `Laws` with what holds of them.
pub mod Volts
pub mod Laws
