mod Depth
mod Short
mod Specs
