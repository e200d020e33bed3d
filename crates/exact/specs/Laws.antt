-- What holds of the definitions: limbs and their number, the units and the bits of a float, exact numbers with their sign, sums of many terms.
pub mod Limbs
pub mod Units
pub mod Bits
pub mod Net
pub mod Sums
