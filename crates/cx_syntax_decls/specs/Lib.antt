pub mod Sets
pub mod Values
pub mod Grammar
pub mod Ahead
pub mod Readers
pub mod Symbols
