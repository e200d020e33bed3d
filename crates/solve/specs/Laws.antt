-- What holds of the definitions: the entries that each turn leaves, and what clients cite of a call.
pub mod Entries
pub mod Solve
