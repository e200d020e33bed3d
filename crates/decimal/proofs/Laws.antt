-- What holds of the definitions and rests on the place of the decimal unit, up to the law that every float reads back.
pub mod Units
pub mod ReadBack
