pub mod Distinct
pub mod Limits
pub mod Names
