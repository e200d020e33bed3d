-- Laws that stand here and not in specs/, so that a wrong definition there fails them where they stand.
pub mod Jobs
pub mod Promises
