-- How a switch among the options is read, and option sets by name.
pub mod Switch
pub mod Bench
