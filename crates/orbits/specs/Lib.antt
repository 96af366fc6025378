pub mod Orbits
pub mod Laws
