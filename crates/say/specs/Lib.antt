-- What is decided before it is written: which numbers have a line, and the sum of the counts. What is written of it is compared with stored output.
pub mod Totals
