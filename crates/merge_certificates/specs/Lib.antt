pub mod Quiet
pub mod Unions
pub mod Touched
pub mod Near
pub mod Failing
pub mod Below
pub mod TwoSets
