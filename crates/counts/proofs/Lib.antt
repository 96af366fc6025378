pub mod Along
pub mod Windows
pub mod Halves
