pub mod ConditionsSeen
