pub mod Checks
pub mod Tokens
