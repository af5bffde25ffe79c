mod Cases
pub mod Numbers
pub mod Parsed
