pub mod Parts
pub mod Numbers
pub mod Walk
pub mod Accepts
