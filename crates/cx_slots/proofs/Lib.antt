pub mod Lengths
pub mod Reading
pub mod Frames
pub mod Over
pub mod Seen
pub mod Fresh
pub mod Ended
pub mod NewTrees
mod Examples
