pub mod Events
pub mod Everywhere
pub mod Levels
pub mod Occurrences
pub mod Parts
pub mod Pushed
pub mod SelectionOutlines
pub mod ValueOutlines
