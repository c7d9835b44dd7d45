pub mod Parts
pub mod Reports
pub mod Telling
pub mod Texts
pub mod Tasks
