pub mod Earlier
pub mod Rightness
