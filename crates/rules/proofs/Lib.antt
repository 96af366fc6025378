-- In the order in which they build on each other.
pub mod Sums
pub mod Signed
pub mod Straight
pub mod Step
pub mod Worst
pub mod Least
pub mod Zones
pub mod More
pub mod Total
pub mod Grants
pub mod Cases
