pub mod Deciding
pub mod Opening
