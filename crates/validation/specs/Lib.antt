pub mod Stages
pub mod RootRules
pub mod Dialects
