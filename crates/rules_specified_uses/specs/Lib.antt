pub mod InputPlaces
pub mod ValueUses
pub mod Waiting
