-- What a walk over the initializer of a constant finds: literals and names of type int, parentheses, and chains of `+`, `-` and `*`
-- ([expr.prim], [expr.add], [expr.mul], [basic.lookup]). Any other form is left out, at its own span.
use Rattle.std.specs.Prelude.{◌≡◌, ℕ, ℤ, pos, negsuc, Bool, true, false, ◌&&◌, ◌+ℤ◌, ◌-ℤ◌, ◌*ℤ◌, int_le, List, [], ◌∷◌, Option, Some, None, if◌then◌else◌}
use Rattle.std.specs.Option.{option_or}
use Rattle.cx_base.specs.declared.diag.Mark.{Mark}
use Rattle.cx_base.specs.declared.diag.Span.{Span}
use Rattle.cx_base.specs.declared.int_type.IntType.{IntType}
use Rattle.cx_base.specs.declared.int_type.IntType.TheVariants as type
use Rattle.cx_base.specs.declared.rule.Rule.{Rule}
use Rattle.cx_base.specs.declared.rule.Rule.TheVariants as rule
use Rattle.cx_ints.specs.declared.int.Int.{Int}
use Rattle.cx_tree.specs.declared.exprs.Clause.TheFolds.{fold-Expr, fold-Operation}
use Rattle.cx_tree.specs.declared.exprs.Clause.TheOpen.{Expr-F, ExprKind-F, Operation-F}
use Rattle.cx_tree.specs.declared.exprs.Expr.{Expr}
use Rattle.cx_tree.specs.declared.exprs.Operation.{Operation}
use Rattle.cx_tree.specs.declared.names.FunctionName.{FunctionName}
use Rattle.cx_tree.specs.declared.names.Ident.{Ident}
use Rattle.cx_tree.specs.declared.names.Last.{Last}
use Rattle.cx_tree.specs.declared.names.Last.TheVariants as last
use Rattle.cx_tree.specs.declared.operators.BinaryOp.{BinaryOp}
use Rattle.cx_tree.specs.declared.operators.BinaryOp.TheVariants as operator
use Rattle.cx_unit.specs.declared.found.Found.{Found}
use Rattle.cx_unit.specs.declared.found.Found.TheVariants.{Wrong, OutOfRange, Value}
use Rattle.cx_unit.specs.Names.{value_among}

-- the values of the names declared so far
abbrev pub Values : Type 0
Values = List (List ℕ × ℤ)

abbrev pub wrong : Rule → Span → Found
wrong broken span = Wrong (record { rule = broken; span = span })

-- a form that no constant has yet
abbrev pub left_out : Span → Found
left_out span = wrong rule.LeftOutForm span

-- ---- single parts

-- the range of int, of 32 bits ([basic.fundamental])
abbrev pub fits_int : ℤ → Bool
fits_int z = int_le (negsuc 2147483647) z && int_le z (pos 2147483647)

abbrev pub in_range : Mark → Mark → ℤ → Found
in_range start end z = if fits_int z then Value z else OutOfRange (record { start = start; end = end })

abbrev pub is_int_type : IntType → Bool
is_int_type type.Int = true
is_int_type _ = false

-- a literal of type int ([lex.icon]), whose value is in its range
abbrev pub literal : Int → Span → Found
literal int span = if is_int_type int.ty && fits_int int.value then Value int.value else left_out span

abbrev pub value_or : Span → Option ℤ → Found
value_or span None = wrong rule.UnknownName span
value_or span (Some z) = Value z

-- a name declared before ([basic.lookup])
abbrev pub value_of : Values → Ident → Found
value_of values name = value_or name.span (value_among values name.text)

abbrev pub last_named : Values → Last → Span → Found
last_named values (last.Ident name) span = value_of values name
last_named values (last.Operator op) span = left_out span

abbrev pub unscoped : Values → List Ident → Last → Span → Found
unscoped values [] last span = last_named values last span
unscoped values (scope ∷ scopes) last span = left_out span

-- a name without `::` before it or in it
abbrev pub named_by : Values → Bool → FunctionName → Span → Found
named_by values true name span = left_out span
named_by values false name span = unscoped values name.scopes name.last span

abbrev pub named : Values → FunctionName → Span → Found
named values name span = named_by values name.global name span

-- ---- operations

abbrev pub is_built : BinaryOp → Bool
is_built operator.Add = true
is_built operator.Subtract = true
is_built operator.Multiply = true
is_built _ = false

abbrev pub joined : BinaryOp → ℤ → ℤ → ℤ
joined operator.Subtract a b = a -ℤ b
joined operator.Multiply a b = a *ℤ b
joined _ a b = a +ℤ b

-- where the left operand has an operation out of range, a right operand that is wrong comes first
abbrev pub first_fault : Span → Found → Found
first_fault a (Wrong b) = Wrong b
first_fault a _ = OutOfRange a

-- An operation on what was found of its operands, which are both walked before any value is known.
abbrev pub joined_found : Mark → Mark → BinaryOp → Found → Found → Found
joined_found start end op (Wrong a) b = Wrong a
joined_found start end op (OutOfRange a) b = first_fault a b
joined_found start end op (Value a) (Wrong b) = Wrong b
joined_found start end op (Value a) (OutOfRange b) = OutOfRange b
joined_found start end op (Value a) (Value b) = in_range start end (joined op a b)

-- what is known of an expression: where it stands, and what is found of it
pub record Walk : Type 0 where
  pub extent : Span
  pub found : Values → Found

-- an operator and its right operand
abbrev pub Step : Type 0
Step = BinaryOp × Walk

-- The end of the last operation of a chain that is left out: it is the outermost such, so the walk reaches it first.
abbrev pub left_out_end : List Step → Option Mark
left_out_end [] = None
left_out_end (step ∷ steps) = option_or (left_out_end steps) (if is_built step.0 then None else Some step.1.extent.end)

-- the steps from left to right, each on all before it, where the first operand began there
unfoldable pub chained : Values → Mark → Found → List Step → Found
chained values start found [] = found
chained values start found (step ∷ steps) = chained values start (joined_found start step.1.extent.end step.0 found (step.1.found values)) steps

abbrev pub chain_by : Option Mark → Values → Mark → Found → List Step → Found
chain_by (Some end) values start found steps = left_out (record { start = start; end = end })
chain_by None values start found steps = chained values start found steps

-- a first operand that began there, with what was found of it, and the steps behind it
abbrev pub chain : Values → Mark → Found → List Step → Found
chain values start found steps = chain_by (left_out_end steps) values start found steps

-- ---- an expression by cases

-- what is found of a form, given where it stands
abbrev pub OfKind : Type 0
OfKind = Span → Values → Found

abbrev pub kind_step : ExprKind-F (Unit {0}) OfKind (Unit {0}) (Unit {0}) (Unit {0}) (Unit {0}) (Unit {0}) Walk (Unit {0}) (Unit {0}) Step (Unit {0}) → OfKind
kind_step (ExprKind-F.Number int) span values = literal int span
kind_step (ExprKind-F.Name name) span values = named values name span
-- ( e )
kind_step (ExprKind-F.Paren e) span values = e.found values
-- a + b * c
kind_step (ExprKind-F.Chain first steps) span values = chain values first.extent.start (first.found values) steps
kind_step _ span values = left_out span

abbrev pub expr_step : Expr-F (Unit {0}) OfKind (Unit {0}) (Unit {0}) (Unit {0}) (Unit {0}) (Unit {0}) Walk (Unit {0}) (Unit {0}) Step (Unit {0}) → Walk
expr_step e = record { extent = e.extent; found = e.kind e.extent }

abbrev pub operation_step : Operation-F (Unit {0}) OfKind (Unit {0}) (Unit {0}) (Unit {0}) (Unit {0}) (Unit {0}) Walk (Unit {0}) (Unit {0}) Step (Unit {0}) → Step
operation_step o = (o.operator, o.operand)

abbrev pub walk_of : Expr → Walk
walk_of = fold-Expr (Unit {0}) OfKind (Unit {0}) (Unit {0}) (Unit {0}) (Unit {0}) (Unit {0}) Walk (Unit {0}) (Unit {0}) Step (Unit {0})
    (λ c. tt) kind_step (λ c. tt) (λ c. tt) (λ c. tt) (λ c. tt) (λ c. tt) expr_step (λ c. tt) (λ c. tt) operation_step (λ c. tt)

abbrev pub step_of : Operation → Step
step_of = fold-Operation (Unit {0}) OfKind (Unit {0}) (Unit {0}) (Unit {0}) (Unit {0}) (Unit {0}) Walk (Unit {0}) (Unit {0}) Step (Unit {0})
    (λ c. tt) kind_step (λ c. tt) (λ c. tt) (λ c. tt) (λ c. tt) (λ c. tt) expr_step (λ c. tt) (λ c. tt) operation_step (λ c. tt)

-- what is found of an expression behind these names
abbrev pub found_in : Values → Expr → Found
found_in values e = (walk_of e).found values

-- the exact result where it is in the range of int
abbrev pub IsExact : BinaryOp → ℤ → ℤ → Option ℤ → Type 0
IsExact op a b (Some z) = (fits_int (joined op a b) ≡ true) × (z ≡ joined op a b)
IsExact op a b None = fits_int (joined op a b) ≡ false
