pub mod Sides
pub mod Ridges
mod Verdicts
pub mod Handed
