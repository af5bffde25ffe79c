pub mod Residues
pub mod EachType
pub mod TypeLaws
pub mod Exact
pub mod Shifting
pub mod Patterns
pub mod Results
pub mod Listed
mod Checks
mod Examples
