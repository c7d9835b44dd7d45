pub mod Graph
pub mod Named
pub mod Sound
