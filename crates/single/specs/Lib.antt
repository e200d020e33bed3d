-- One DC job by itself. Read Single; Laws/Promises.antt has what callers above the engine cite.
pub mod Single
pub mod Laws
