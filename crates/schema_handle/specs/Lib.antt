pub mod Calls
pub mod Slots
