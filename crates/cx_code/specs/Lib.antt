pub mod Cells
pub mod Means
pub mod Operations
pub mod Shapes
pub mod Valid
pub mod Virtual
pub mod Ways
