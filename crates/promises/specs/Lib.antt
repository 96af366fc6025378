pub mod Settled
pub mod Answers
pub mod Laws
pub mod Boards
pub mod TwoBoards
