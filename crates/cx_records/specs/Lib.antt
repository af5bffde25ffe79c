pub mod Records
pub mod Walks
pub mod Fits
pub mod Checks
pub mod Writes
pub mod Parts
pub mod Makes
pub mod Seals
