pub mod Names
pub mod Position
pub mod References
pub mod Refusals
pub mod Types
