-- What holds of the sums that are written. These laws stand here and not in specs/, so that a wrong definition there fails them where they stand.
pub mod Totals
