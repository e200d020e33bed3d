-- Whether the diodes of a sheet have caught up. Read Behind; `Laws` holds what is proved of it.
pub mod Behind
pub mod Laws
