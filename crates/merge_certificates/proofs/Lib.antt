pub mod ClearLists
pub mod KindNumbers
pub mod Merged
pub mod Nearness
pub mod Touching
pub mod Uniting
