pub mod Operators
pub mod Stops
