pub mod Growing
pub mod InReaching
pub mod Indexing
pub mod Joined
pub mod Once
pub mod PlaceLists
pub mod ScopeTests
pub mod Spreading
