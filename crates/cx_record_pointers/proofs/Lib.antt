pub mod Meetings
pub mod Seats
pub mod Comparing
pub mod Moving
pub mod Enclosing
