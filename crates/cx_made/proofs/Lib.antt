mod Cases
pub mod Lengths
