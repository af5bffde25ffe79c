pub mod Walking
pub mod Ends
pub mod Seating
pub mod Meeting
pub mod Comparing
pub mod Shaping
pub mod Standing
pub mod Living
pub mod Deciding
pub mod Answering
mod Examples
