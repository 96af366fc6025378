pub mod Rounds
pub mod Long
