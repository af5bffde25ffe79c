pub mod Decls
pub mod Exprs
pub mod Names
pub mod Verdict
