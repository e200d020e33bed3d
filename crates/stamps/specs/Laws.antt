-- What is proved of writes, and two systems worked out.
pub mod Write
pub mod Entry
pub mod Cases
