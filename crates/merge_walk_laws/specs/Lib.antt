pub mod Occurring
pub mod Laws
