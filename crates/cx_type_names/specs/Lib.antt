pub mod Groups
pub mod Names
pub mod Roles
pub mod Soup
pub mod Walk
