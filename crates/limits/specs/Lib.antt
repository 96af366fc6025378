pub mod Refusal
pub mod Limits
