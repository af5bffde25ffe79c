pub mod Sets
pub mod Values
pub mod Grammar
pub mod Readers
pub mod Goes
pub mod Symbols
