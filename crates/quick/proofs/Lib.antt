mod Exits
mod Replies
