mod Following
mod Sums
