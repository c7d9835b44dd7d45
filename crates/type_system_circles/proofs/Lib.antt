pub mod Walks
pub mod Steps
pub mod Ends
pub mod Firsts
pub mod Simple
pub mod Judge
pub mod Named
