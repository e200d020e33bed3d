-- The control of a run on its counters. Read Counters, then Control; `Laws` holds what is proved of them.
pub mod Phases
pub mod Counters
pub mod Control
pub mod Laws
