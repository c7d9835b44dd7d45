pub mod Held
pub mod Decided
pub mod Size
