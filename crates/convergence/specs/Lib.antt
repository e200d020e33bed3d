-- What the convergence check answers. Definitions, and `Laws` with computed cases.
pub mod Convergence
pub mod Laws
