pub mod Opening
pub mod Walking
pub mod Filling
pub mod Filled
pub mod Accesses
pub mod Unions
pub mod Lives
pub mod Breaking
