pub mod Stages
pub mod Reports
pub mod Root
mod ByDialect
