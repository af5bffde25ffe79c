pub mod Keeping
pub mod Reading
pub mod Holding
pub mod Meeting
