pub mod Meetings
pub mod Seats
pub mod Enclosing
