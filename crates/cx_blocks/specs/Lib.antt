pub mod Paths
pub mod Seen
pub mod Fits
pub mod Stored
pub mod News
pub mod Makes
pub mod Bars
pub mod Growing
