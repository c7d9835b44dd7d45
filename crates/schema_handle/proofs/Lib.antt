pub mod AsBox
pub mod Crossing
pub mod Opened
