pub mod MoreFields
