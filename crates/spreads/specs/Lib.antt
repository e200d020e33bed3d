-- What a call of spreads answers and leaves. Read Spreads, then Numbers, Refusals and Runs, and tally's definitions for the report; `Laws` holds what follows from them.
pub mod Runs
pub mod Refusals
pub mod Spreads
pub mod Numbers
pub mod Laws
