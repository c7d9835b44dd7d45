pub mod PlacedUses
pub mod Usages
pub mod VariablesInAllowedPosition
pub mod VariablesInAllowedPositionLaws
