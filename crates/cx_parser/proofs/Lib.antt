mod Chained
mod Depth
mod Links
mod RuleLengths
