pub mod BlockScanning
pub mod BlockStrings
pub mod Characters
pub mod StringFaults
pub mod StringValues
pub mod Unescaping
