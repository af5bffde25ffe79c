pub mod Forms
pub mod Contents
pub mod Ways
pub mod Kinds
