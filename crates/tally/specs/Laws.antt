-- What holds of the report: with one job more, over lists that agree, of all it tells, of the sum, and all of it in one: read Summary; and of lists that may not hold the jobs.
pub mod Tally
pub mod Same
pub mod Report
pub mod Sum
pub mod Summary
pub mod Ready
