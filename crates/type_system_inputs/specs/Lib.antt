pub mod Graph
pub mod Inputs
pub mod Told
