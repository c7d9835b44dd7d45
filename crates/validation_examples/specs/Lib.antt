pub mod MadeTypes
pub mod Told
pub mod ValuesAfter
