-- What each group of stamps writes, and what a pass stamps. Read Records, Plain, Storage, Sources, Diodes, then Stamping; Listed has the diodes found once. `Laws` holds what is proved of them.
pub mod Records
pub mod Plain
pub mod Storage
pub mod Sources
pub mod Diodes
pub mod Stamping
pub mod Listed
pub mod Laws
