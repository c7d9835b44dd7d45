pub mod Existence
pub mod Marking
pub mod Reaching
pub mod Searches
pub mod Spreads
