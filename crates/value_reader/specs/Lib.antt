pub mod Values
pub mod Grammar
pub mod Faults
pub mod Machine
pub mod Seen
