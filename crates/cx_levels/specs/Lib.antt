pub mod DeclLevels
pub mod ExprLevels
pub mod Levels
pub mod StmtLevels
