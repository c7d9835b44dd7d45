pub mod DocumentIndex
pub mod InReachUses
pub mod Names
pub mod Undefined
pub mod Unused
pub mod Uses
