pub mod Levels
pub mod Measure
pub mod Names
pub mod Walk
pub mod Written
