pub mod Adding
pub mod Looking
pub mod Maps
pub mod Slots
