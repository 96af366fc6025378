pub mod Records
pub mod Refusals
pub mod Troubles
pub mod Jobs
pub mod Answers
