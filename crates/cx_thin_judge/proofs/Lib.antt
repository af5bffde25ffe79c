pub mod Nodes
pub mod Kept
pub mod Loops
pub mod Telling
