pub mod DirectiveLemmas
pub mod ExtendLemmas
pub mod Finds
pub mod KeyedLemmas
pub mod KindLemmas
pub mod Refusals
pub mod SwapLemmas
pub mod TableLemmas
