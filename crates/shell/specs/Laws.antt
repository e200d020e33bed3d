-- What holds of arguments by themselves and of texts. What holds of all arguments and of the status stands in proofs/Laws.
pub mod Each
pub mod Compare
pub mod Words
