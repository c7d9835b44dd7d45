pub mod Columns
pub mod Escapes
pub mod InARow
pub mod Lines
pub mod PrintableLines
pub mod PrintableTexts
pub mod Texts
