-- How many bytes stand at the start of a buffer.
pub mod Counts
