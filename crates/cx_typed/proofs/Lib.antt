pub mod Growth
pub mod Types
pub mod Views
pub mod Stuck
pub mod Start
pub mod Judgements
pub mod Keeping
mod Examples
