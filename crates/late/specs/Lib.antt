pub mod Pieces
pub mod Late
