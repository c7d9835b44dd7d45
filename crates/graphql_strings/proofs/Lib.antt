pub mod BlockLaws
pub mod BlockValue
pub mod EscapeLaws
pub mod FaultLaws
pub mod Runs
pub mod StringLaws
