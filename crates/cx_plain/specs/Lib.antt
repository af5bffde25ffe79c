pub mod DeclarationViews
pub mod Declarations
pub mod ExpressionViews
pub mod Expressions
pub mod Spans
