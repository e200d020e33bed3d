-- Counting loops, and what copying, filling and putting a row leave. Definitions, and `Laws` with what holds of them.
pub mod Loop
pub mod Each
pub mod Laws
