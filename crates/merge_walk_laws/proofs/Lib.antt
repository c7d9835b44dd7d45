mod Details
mod Finding
pub mod Agreeing
mod Meeting
mod Placing
pub mod Standing
