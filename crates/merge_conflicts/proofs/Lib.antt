pub mod Ends
pub mod Errors
pub mod Leading
pub mod Tellings
