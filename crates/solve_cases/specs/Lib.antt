-- No definitions: `Laws` has systems whose bits come from outside, computed.
pub mod Laws
