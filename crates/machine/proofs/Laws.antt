-- Laws that stand here and not in specs/, so that a wrong definition there fails them where they stand.
pub mod Kept
pub mod NoSine
pub mod OneVerdict
pub mod Rows
pub mod Settles
pub mod Switched
pub mod Taken
pub mod Units
