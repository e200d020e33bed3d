-- What a sheet means and when it is refused. Read Record, Range, Sharing, Check and Row; Kind has the number of an element. `Laws` holds what is proved of them.
pub mod Record
pub mod Range
pub mod Sharing
pub mod Check
pub mod Row
pub mod Kind
pub mod Laws
