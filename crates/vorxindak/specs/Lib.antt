pub mod Calls
pub mod Statuses
