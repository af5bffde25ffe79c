pub mod NameLookups
pub mod Verdicts
pub mod Walks
