pub mod Count
pub mod Rows
pub mod Set
