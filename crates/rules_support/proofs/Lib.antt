pub mod Kept
pub mod RepeatsSeen
pub mod Reported
