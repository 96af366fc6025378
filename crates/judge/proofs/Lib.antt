pub mod Exits
pub mod Replies
pub mod Gates
pub mod Answered
