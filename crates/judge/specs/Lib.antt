-- The judge: what it answers, and `Laws` that say exactly when.
pub mod Judge
pub mod Laws
