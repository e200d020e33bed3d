-- What holds of the definitions: computed cases.
pub mod Cases
