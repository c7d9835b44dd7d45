pub mod Skipping
pub mod Telling
pub mod Turns
pub mod UseLemmas
pub mod Variables
