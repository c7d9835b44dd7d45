pub mod Ended
pub mod Rules
pub mod Tasks
pub mod Told
pub mod Written
