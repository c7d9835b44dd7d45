pub mod FirstPlaces
pub mod FoundLaws
pub mod Names
pub mod Noting
pub mod NotingLaws
pub mod Repeats
pub mod RepeatsLaws
