-- What a stamp writes into a system. Read Write, then Kinds; `Laws` holds what is proved of them.
pub mod Write
pub mod Kinds
pub mod Laws
