pub mod Slots
pub mod Flat
pub mod Fresh
pub mod Frames
