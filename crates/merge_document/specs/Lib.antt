pub mod WrittenOut
pub mod Merging
pub mod Conflicts
pub mod Found
