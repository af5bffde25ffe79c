pub mod Counting
pub mod Numbering
pub mod Parting
pub mod Ways
pub mod Ends
mod Examples
pub mod Typing
pub mod Walking
pub mod Views
pub mod Building
pub mod Fresh
pub mod Seeing
