-- What a call of sound spreads answers and leaves. Read Causes, then Sound, Refusals and Reports; Runs has what the work leaves on its way; `Laws` holds what follows from them.
pub mod Causes
pub mod Runs
pub mod Refusals
pub mod Reports
pub mod Sound
pub mod Numbers
pub mod Laws
