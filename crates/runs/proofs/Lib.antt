pub mod Edges
pub mod Ordered
