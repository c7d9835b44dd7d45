pub mod Conforms
pub mod Laws
