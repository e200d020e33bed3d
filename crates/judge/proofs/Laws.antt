-- What holds of the judge: exactly when it accepts, names a row or refuses.
pub mod Judge
