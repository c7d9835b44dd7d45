pub mod OperationSpreads
pub mod Reach
pub mod ReachedFragments
pub mod Search
