pub mod AcrossSteps
pub mod Clean
pub mod Distinct
pub mod Kept
pub mod Occurring
pub mod Values
