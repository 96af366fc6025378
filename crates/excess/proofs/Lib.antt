pub mod Average
pub mod Walks
