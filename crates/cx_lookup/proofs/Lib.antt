pub mod Strict
mod Examples
pub mod Best
pub mod Rows
