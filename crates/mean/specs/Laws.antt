-- What holds of the mean.
pub mod Mean
pub mod One
