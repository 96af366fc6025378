-- In the order in which they build on each other.
pub mod Entries
pub mod Turns
pub mod Counts
pub mod Crests
