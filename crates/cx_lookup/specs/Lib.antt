pub mod Ranks
pub mod Better
pub mod Choice
pub mod Levels
