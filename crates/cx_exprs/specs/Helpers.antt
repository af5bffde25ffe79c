-- Parts of the typed forms of expressions, with the operands not yet typed.
use Rattle.std.specs.Prelude.{List, map}
use Rattle.cx_base.specs.declared.diag.Span.{Span}
use Rattle.cx_base.specs.declared.int_type.IntType.{IntType}
use Rattle.cx_tree.specs.declared.exprs.Clause.{Clause}
use Rattle.cx_tree.specs.declared.exprs.Expr.{Expr}
use Rattle.cx_tree.specs.declared.operators.PrefixOp.{PrefixOp}
use Rattle.cx_tree.specs.declared.specifiers.SimpleType.{SimpleType}
use Rattle.cx_plain.specs.Expressions as e
use Rattle.cx_plain.specs.Expressions.{Expression, TypeWritten}
use Rattle.cx_plain.specs.ExpressionViews.{arguments_of, clause_seen, clauses_of, placed}
use Rattle.cx_exprs.specs.Expressions.{typed}
use Rattle.cx_exprs.specs.Forms.{cast, conditional, narrowed, size, unary}
use Rattle.cx_exprs.specs.Operators.{planned_prefix}
use Rattle.cx_exprs.specs.Parts.{Tree, type_of}
use Rattle.cx_exprs.specs.TypeWords.{type_written}
use Rattle.cx_exprs.specs.Typing.{Typed, Good, World, and_then, node}

abbrev pub prefixed : PrefixOp → Expression → Span → World → Typed Tree
prefixed o a at w = and_then (typed a w) (λ x u. node at (unary (planned_prefix o (type_of x)) x at) u)

abbrev pub cast_of : IntType → Expression → Span → World → Typed Tree
cast_of ty a at w = and_then (typed a w) (λ x v. node at (cast ty x at) v)

abbrev pub braced_cast : IntType → Expression → Span → World → Typed Tree
braced_cast ty a at w = and_then (typed a w) (λ x v. and_then (narrowed ty x v) (λ _ z. node at (cast ty x at) z))

abbrev pub size_of : TypeWritten → Span → World → Typed Tree
size_of t at w = and_then (type_written t w) (λ ty u. Good (size ty at) u)

abbrev pub choice : Expression → Expression → Expression → Span → World → Typed Tree
choice c a b at w = and_then (typed c w) (λ z t. and_then (typed a t) (λ x u. and_then (typed b u) (λ y v. node at (conditional z x y at) v)))

-- T(..), T{..}
abbrev pub of_arguments : SimpleType → List Expr → Span → World → Typed Tree
of_arguments t items at w = typed (e.OfWord t (e.FromArguments (arguments_of (map placed items)) at) at) w

abbrev pub of_clauses : SimpleType → List Clause → Span → World → Typed Tree
of_clauses t clauses at w = typed (e.OfWord t (e.FromBraces (clauses_of (map clause_seen clauses)) at) at) w
