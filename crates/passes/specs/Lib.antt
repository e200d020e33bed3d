-- The run of a budget at the real stamping and solving. Read Attempt and Run; Sized says which lengths fit. Again and Done are cited by the contracts of inner functions alone.
pub mod Sized
pub mod Lent
pub mod Attempt
pub mod Run
pub mod Again
pub mod Done
pub mod Laws
