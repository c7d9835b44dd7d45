pub mod Circles
pub mod Graph
pub mod Uses
