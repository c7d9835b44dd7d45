pub mod Backwards
pub mod Entering
pub mod Leaving
pub mod Onward
pub mod Order
pub mod Ways
