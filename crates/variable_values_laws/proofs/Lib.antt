pub mod Conforming
pub mod Keys
pub mod NoFaults
pub mod Operations
pub mod Parts
pub mod SortedOnce
