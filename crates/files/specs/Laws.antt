-- What holds of the voltages that are told.
pub mod Volts
