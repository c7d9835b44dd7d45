pub mod Colours
pub mod Github
pub mod Json
pub mod JsonEscapes
pub mod Lines
pub mod Printable
pub mod Texts
pub mod Windows
