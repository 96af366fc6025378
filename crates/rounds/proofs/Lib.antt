pub mod Bodies
mod Replies
mod Gates
mod Found
