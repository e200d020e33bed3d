-- What is proved of the control.
pub mod Phases
pub mod Verdicts
pub mod Control
pub mod Waited
pub mod Switched
