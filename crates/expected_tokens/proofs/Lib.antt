pub mod Laws
pub mod Lines
pub mod Samples
pub mod StopLaws
