-- What a run refuses before it starts. Read Checks; `Laws` holds what a caller may build on where nothing is refused.
pub mod Checks
pub mod Laws
