-- The report over many jobs: how many have each number, and over the settled ones the smallest, the largest and the exact sum of a chosen value. Read Tally; `Laws` holds what follows from it.
pub mod Tally
pub mod Laws
