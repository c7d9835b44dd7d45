pub mod Copying
pub mod Lists
pub mod Looking
pub mod Noting
pub mod Passing
pub mod Taking
