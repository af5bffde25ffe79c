pub mod Ranges
pub mod Conversions
pub mod Literals
pub mod Bits
pub mod Operations
