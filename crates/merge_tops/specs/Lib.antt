pub mod Inner
pub mod Tops
pub mod TopCosts
pub mod TopCounts
