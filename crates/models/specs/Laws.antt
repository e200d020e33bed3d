-- What holds of the definitions, and cases worked out.
pub mod Numbers
pub mod Situations
pub mod UpAndDown
pub mod Binary64
pub mod Remainder
pub mod Points
pub mod Rising
pub mod First
pub mod Cases
pub mod SineAtZero
