pub mod Edges
pub mod Finds
pub mod Items
pub mod Names
pub mod Naming
pub mod Placing
pub mod Text
