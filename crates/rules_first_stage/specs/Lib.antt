pub mod Across
pub mod AcrossLaws
pub mod CleanStage
pub mod Stage
pub mod Along
pub mod AlongLaws
