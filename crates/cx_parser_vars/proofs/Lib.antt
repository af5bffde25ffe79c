pub mod Depth
pub mod Greatest
pub mod Parens
pub mod Short
pub mod Soups
