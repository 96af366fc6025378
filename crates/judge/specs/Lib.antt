pub mod Judge
pub mod Points
