pub mod Slides
pub mod Complete
