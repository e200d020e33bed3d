-- The C door's answers, as numbers. Read Runs, Spreads and Sound (a run's and a call's), then Answers (the leaves).
pub mod Answers
pub mod Runs
pub mod Spreads
pub mod Sound
