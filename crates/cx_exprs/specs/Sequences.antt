-- What stands behind a first operand, typed one after another: the operations of a chain ([expr.mul] to [expr.log.or]), and the expressions
-- behind a comma ([expr.comma]).
use Rattle.std.specs.Prelude.{List, [], ◌∷◌}
use Rattle.cx_base.specs.declared.diag.Span.{Span}
use Rattle.cx_tree.specs.declared.exprs.Expr.{Expr}
use Rattle.cx_tree.specs.declared.exprs.Operation.{Operation}
use Rattle.cx_plain.specs.ExpressionViews.{Placed, operand, placed}
use Rattle.cx_plain.specs.Spans.{from_to}
use Rattle.cx_exprs.specs.Expressions.{typed}
use Rattle.cx_exprs.specs.Forms.{binary, comma}
use Rattle.cx_exprs.specs.Parts.{Tree}
use Rattle.cx_exprs.specs.Typing.{Typed, Good, World, and_then}

-- one after another, each joined to all before it; the first operand has that extent
abbrev pub typed_behind : {A : Type 0} → (A → Placed) → (A → Tree → Tree → Span → Tree) → Span → Tree → List A → World → Typed Tree
typed_behind part join s x [] w = Good x w
typed_behind part join s x (a ∷ rest) w =
    and_then (typed (part a).tree w) (λ y u. typed_behind part join s (join a x y (from_to s (part a).extent)) rest u)

abbrev pub right_of : Operation → Placed
right_of o = (operand o).1

abbrev pub joined : Operation → Tree → Tree → Span → Tree
joined o x y at = (binary (operand o).0 x y at).form

-- the operations of a chain behind its first operand
abbrev pub typed_chain : Span → Tree → List Operation → World → Typed Tree
typed_chain = typed_behind right_of joined

abbrev pub joined_comma : Expr → Tree → Tree → Span → Tree
joined_comma e x y at = (comma x y at).form

abbrev pub typed_commas : Span → Tree → List Expr → World → Typed Tree
typed_commas = typed_behind placed joined_comma
