-- What the arguments ask for, what is seen of a run, and the status. Definitions, and `Laws` with what holds of them.
pub mod Words
pub mod Asked
pub mod Seen
pub mod Laws
