pub mod Conforming
pub mod Faults
pub mod Given
