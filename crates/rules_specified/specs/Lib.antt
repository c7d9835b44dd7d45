pub mod Collected
pub mod Collecting
pub mod FoundAtRoot
pub mod SingleRootField
pub mod SingleRootFieldLaws
