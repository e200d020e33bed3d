-- No definitions: `Laws` has the bench's cases, computed.
pub mod Laws
