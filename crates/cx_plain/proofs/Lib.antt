pub mod Cases
pub mod DeclarationForms
pub mod ExpressionForms
pub mod SpanForms
