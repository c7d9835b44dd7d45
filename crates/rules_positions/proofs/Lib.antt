pub mod FirstDefinitions
pub mod Giving
pub mod LastList
pub mod Skipping
