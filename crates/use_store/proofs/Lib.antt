pub mod Elements
pub mod Pointing
