mod DirectiveLaws
mod InterfaceLaws
mod Iff
mod MemberLaws
mod NameLaws
pub mod Valid
