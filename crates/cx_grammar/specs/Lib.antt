pub mod Language
pub mod Exact
pub mod Reading
pub mod Sets
pub mod Reads
pub mod Nests
pub mod Answers
