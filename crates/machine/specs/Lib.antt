-- The run as a machine of passes. Read State, then Machine; `Laws` holds what is proved of them.
pub mod State
pub mod Machine
pub mod Laws
