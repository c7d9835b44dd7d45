pub mod Judging
pub mod Reporting
