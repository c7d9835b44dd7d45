pub mod Apart
pub mod Schema
pub mod Text
pub mod Told
pub mod Valid
