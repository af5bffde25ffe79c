pub mod Cases
pub mod Initialized
