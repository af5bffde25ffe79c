pub mod Specifiers
pub mod Variables
pub mod Walk
