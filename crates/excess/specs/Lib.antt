pub mod Excess
