-- What holds of the judge: what it refuses; and computed cases.
pub mod Judge
pub mod Cases
