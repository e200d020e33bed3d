-- The mean of an exact sum: what it is, what the functions behind it promise each other, and `Laws`, one of which says that the mean of one float is that float.
pub mod Mean
pub mod Rows
pub mod Leading
pub mod Laws
