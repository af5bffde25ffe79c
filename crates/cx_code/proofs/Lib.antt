mod Cases
mod CasesRules
pub mod Outs
pub mod Stable
