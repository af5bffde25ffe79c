pub mod Pointers
pub mod Lives
pub mod Walks
pub mod Standings
