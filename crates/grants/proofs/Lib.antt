pub mod Bytes
pub mod Trials
pub mod Halves
pub mod Calls
