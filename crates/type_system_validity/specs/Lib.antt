pub mod Deprecation
pub mod Implementation
pub mod Interfaces
pub mod Members
pub mod Names
pub mod Valid
