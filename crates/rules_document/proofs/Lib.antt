pub mod Meeting
pub mod Told
pub mod Unused
pub mod FirstMeeting
