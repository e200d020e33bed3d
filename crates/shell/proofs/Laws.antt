-- What holds of the arguments and of the status. Read Status first; Spreads has the law of a whole call of spreads. These laws stand here and not in specs/, so that a wrong definition there fails them where they stand.
pub mod Asked
pub mod Status
pub mod Spreads
