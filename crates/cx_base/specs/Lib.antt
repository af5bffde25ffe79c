pub mod Limits
pub mod Only
pub mod Rules
pub mod formers
pub mod Texts
