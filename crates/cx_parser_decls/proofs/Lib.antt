mod Begins
mod Depth
mod Lengths
mod WholeUnits
