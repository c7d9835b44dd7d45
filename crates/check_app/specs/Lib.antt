pub mod Failures
pub mod Report
pub mod Statuses
pub mod Told
pub mod Words
