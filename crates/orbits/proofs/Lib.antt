pub mod Rounds
pub mod Laps
pub mod Members
mod Marks
