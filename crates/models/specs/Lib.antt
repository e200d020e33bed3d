-- What each model answers. Signs has the operators; then one file a model. `Laws` holds cases worked out.
pub mod Signs
pub mod Capacitor
pub mod Inductor
pub mod Diode
pub mod Situation
pub mod Sine
pub mod Vpwl
pub mod Laws
