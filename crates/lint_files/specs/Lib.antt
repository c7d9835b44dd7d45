pub mod Host
pub mod Paths
pub mod Read
