-- What is proved of the sheet, and small sheets worked out.
pub mod Record
pub mod Row
pub mod Kind
pub mod Inside
pub mod Sharing
pub mod Clean
pub mod Ends
pub mod Right
pub mod Inductors
pub mod Cases
