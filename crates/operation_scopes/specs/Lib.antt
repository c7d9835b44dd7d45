pub mod Index
pub mod OperationNumbers
pub mod Places
pub mod Scopes
pub mod Searches
