pub mod Adding
pub mod Algebra
pub mod Equations
