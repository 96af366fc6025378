pub mod Settled
pub mod Bounds
pub mod Laws
pub mod Rounds
pub mod Replies
pub mod Boards
pub mod TwoBoards
