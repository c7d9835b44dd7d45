pub mod SourceScalar
pub mod Checks
pub mod OneAnswer
