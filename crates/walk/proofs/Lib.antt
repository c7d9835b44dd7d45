pub mod Entering
pub mod Kept
pub mod Orders
pub mod Replaced
pub mod Runs
pub mod Sums
pub mod Walks
