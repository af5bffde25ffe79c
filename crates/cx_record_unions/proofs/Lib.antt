pub mod Members
pub mod Renewing
pub mod Activating
mod Deactivating
