pub mod Answers
pub mod Arguments
pub mod Deprecation
pub mod Functions
pub mod Kept
pub mod Kinds
pub mod Places
