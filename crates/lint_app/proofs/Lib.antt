pub mod Endings
pub mod KnownTypes
pub mod PlainText
pub mod Telling
mod Roots
