pub mod Words
pub mod Trees
pub mod Declared
mod Lexemes
mod Ahead
mod Exprs
mod Declarations
mod Variables
mod Functions
mod Classes
mod Statements
mod Depths
mod Places
