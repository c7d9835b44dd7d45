pub mod Faults
pub mod Issues
pub mod Lines
pub mod Places
pub mod ShownLines
pub mod Sources
