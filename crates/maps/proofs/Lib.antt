pub mod Strips
pub mod Draws
mod Carried
pub mod Places
pub mod Rises
