pub mod Pieces
pub mod Cursors
pub mod Sweeps
pub mod Round
