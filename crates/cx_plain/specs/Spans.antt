-- Where expressions and their operations stand.
use Rattle.cx_base.specs.declared.diag.Span.{Span}
use Rattle.cx_plain.specs.Declarations.{Initializer, Equals, EqualsList, DirectList, Direct}
use Rattle.cx_plain.specs.Expressions.{Arguments, no_arguments, argument, Expression, Number, Character, String, True, False, Nullptr, This, Paren, Name, OfWord, OfType, NamedCast, Subscript, Call, PostIncrement, PostDecrement, Member, Destroy, SizeofExpression, SizeofType, AlignofType, Prefix, New, Delete, Cast, Binary, Assign, Conditional, Throw, Comma}

-- from the first token of one to the last of another
abbrev pub from_to : Span → Span → Span
from_to a b = record { start = a.start; end = b.end }

-- An expression's span: in parentheses it is that of what stands inside.
abbrev pub span_of : Expression → Span
span_of (Number i at) = at
span_of (Character c at) = at
span_of (String s at) = at
span_of (True at) = at
span_of (False at) = at
span_of (Nullptr at) = at
span_of (This at) = at
span_of (Paren e at) = span_of e
span_of (Name n at) = at
span_of (OfWord t m at) = at
span_of (OfType t m at) = at
span_of (NamedCast word t e at) = at
span_of (Subscript a e at) = at
span_of (Call f es at) = at
span_of (PostIncrement e at) = at
span_of (PostDecrement e at) = at
span_of (Member e r n at) = at
span_of (Destroy e r n at) = at
span_of (SizeofExpression e at) = at
span_of (SizeofType t at) = at
span_of (AlignofType t at) = at
span_of (Prefix o e at) = at
span_of (New s stars e m at) = at
span_of (Delete all e at) = at
span_of (Cast t e at) = at
span_of (Binary o a b at) = at
span_of (Assign o a b at) = at
span_of (Conditional c a b at) = at
span_of (Throw e at) = at
span_of (Comma a b at) = at

-- an expression that is an argument alone, else the whole list
abbrev pub single_span : Arguments → Span → Span
single_span (argument e no_arguments) at = span_of e
single_span _ at = at

-- Where the initializer of a number, a pointer or a reference is judged: without the `=`, and in parentheses at the expression inside.
abbrev pub scalar_span : Initializer → Span
scalar_span (Equals e at) = span_of e
scalar_span (EqualsList cs braces at) = braces
scalar_span (DirectList cs braces at) = braces
scalar_span (Direct es list at) = single_span es list
