pub mod Laws
pub mod Clean
