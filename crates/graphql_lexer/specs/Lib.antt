pub mod Ahead
pub mod Lexemes
pub mod Lexical
pub mod Places
pub mod Scan
pub mod Scanning
pub mod Seen
