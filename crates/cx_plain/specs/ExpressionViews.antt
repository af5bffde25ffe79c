-- The expressions of the code as plain data.
use Rattle.std.specs.Prelude.{List, [], ◌∷◌, Option, Some, None}
use Rattle.cx_base.specs.declared.diag.Span.{Span}
use Rattle.cx_tree.specs.declared.operators.BinaryOp.{BinaryOp}
use Rattle.cx_tree.specs.declared.exprs.Clause.TheFolds.{fold-Args, fold-Bound, fold-Braces, fold-Clause, fold-Expr, fold-ExprKind, fold-Given, fold-More, fold-MoreKind, fold-New, fold-Operation, fold-TypeId}
use Rattle.cx_tree.specs.declared.exprs.Clause.TheOpen.{Args-F, Bound-F, Braces-F, Clause-F, Expr-F, ExprKind-F, Given-F, More-F, MoreKind-F, New-F, Operation-F, TypeId-F}
use Rattle.cx_tree.specs.declared.exprs.Args.{Args}
use Rattle.cx_tree.specs.declared.exprs.Bound.{Bound}
use Rattle.cx_tree.specs.declared.exprs.Braces.{Braces}
use Rattle.cx_tree.specs.declared.exprs.Clause.{Clause}
use Rattle.cx_tree.specs.declared.exprs.Expr.{Expr}
use Rattle.cx_tree.specs.declared.exprs.ExprKind.{ExprKind}
use Rattle.cx_tree.specs.declared.exprs.Given.{Given}
use Rattle.cx_tree.specs.declared.exprs.More.{More}
use Rattle.cx_tree.specs.declared.exprs.MoreKind.{MoreKind}
use Rattle.cx_tree.specs.declared.exprs.New.{New}
use Rattle.cx_tree.specs.declared.exprs.Operation.{Operation}
use Rattle.cx_tree.specs.declared.exprs.TypeId.{TypeId}
use Rattle.cx_plain.specs.Expressions as e
use Rattle.cx_plain.specs.Expressions.{Expression, Perhaps, Missing, There, Arguments, no_arguments, argument, InitializerClause, Value, Nested, InitializerList, no_clauses, clause, Making, FromArguments, FromBraces, FromNothing, Bounds, no_bounds, bound, TypeWritten, Written}
use Rattle.cx_plain.specs.Spans.{from_to}

-- an expression with where it stands, parentheses round it counted
pub record Placed : Type 0 where
  pub extent : Span
  pub tree : Expression

-- a form that is made with its place
abbrev pub Form : Type 0
Form = Span → Expression

-- what stands behind a head: the form that it makes of all before it; and its own place
abbrev pub Joining : Type 0
Joining = Expression → Form

abbrev pub Part : Type 0
Part = Joining × Span

-- an operator and its right operand
abbrev pub Operand : Type 0
Operand = BinaryOp × Placed

-- expressions in parentheses, clauses in braces, and a bound, with their places
abbrev pub Listed : Type 0
Listed = Arguments × Span

abbrev pub Braced : Type 0
Braced = InitializerList × Span

abbrev pub BoundParts : Type 0
BoundParts = Perhaps × Span

-- operations from left to right, each on all before it, where the first operand has that extent
abbrev pub chained : Span → Expression → List Operand → Expression
chained at a [] = a
chained at a (o ∷ os) = chained at (e.Binary o.0 a o.1.tree (from_to at o.1.extent)) os

-- expressions between commas
abbrev pub comma_list : Span → Expression → List Placed → Expression
comma_list at a [] = a
comma_list at a (b ∷ bs) = comma_list at (e.Comma a b.tree (from_to at b.extent)) bs

-- parts behind a head
abbrev pub postfixed : Span → Expression → List Part → Expression
postfixed at a [] = a
postfixed at a (p ∷ ps) = postfixed at (p.0 a (from_to at p.1)) ps

abbrev pub perhaps : Option Placed → Perhaps
perhaps None = Missing
perhaps (Some e) = There e.tree

abbrev pub arguments_of : List Placed → Arguments
arguments_of [] = no_arguments
arguments_of (e ∷ es) = argument e.tree (arguments_of es)

abbrev pub clauses_of : List InitializerClause → InitializerList
clauses_of [] = no_clauses
clauses_of (c ∷ cs) = clause c (clauses_of cs)

abbrev pub bounds_of : List BoundParts → Bounds
bounds_of [] = no_bounds
bounds_of (b ∷ bs) = bound b.0 b.1 (bounds_of bs)

abbrev pub making_of : Option Making → Making
making_of None = FromNothing
making_of (Some m) = m

-- ---- one level of a tree, with what stands inside already seen as plain data

abbrev pub Level : (Type 0 → Type 0 → Type 0 → Type 0 → Type 0 → Type 0 → Type 0 → Type 0 → Type 0 → Type 0 → Type 0 → Type 0 → Type 0) → Type 0
Level F = F InitializerClause Form Making Joining Listed BoundParts Braced Placed Part Form Operand TypeWritten

abbrev pub kind_step : Level ExprKind-F → Form
kind_step (ExprKind-F.Number i) at = e.Number i at
kind_step (ExprKind-F.Char c) at = e.Character c at
kind_step (ExprKind-F.Str s) at = e.String s at
kind_step ExprKind-F.True at = e.True at
kind_step ExprKind-F.False at = e.False at
kind_step ExprKind-F.Nullptr at = e.Nullptr at
kind_step ExprKind-F.This at = e.This at
kind_step (ExprKind-F.Paren a) at = e.Paren a.tree at
kind_step (ExprKind-F.Name n) at = e.Name n at
kind_step (ExprKind-F.OfWord t m) at = e.OfWord t m at
kind_step (ExprKind-F.OfType t m) at = e.OfType t m at
kind_step (ExprKind-F.NamedCast word t a) at = e.NamedCast word t a.tree at
kind_step (ExprKind-F.Postfix a ps) at = postfixed a.extent a.tree ps
kind_step (ExprKind-F.SizeofExpr a) at = e.SizeofExpression a.tree at
kind_step (ExprKind-F.Prefix o a) at = e.Prefix o a.tree at
kind_step (ExprKind-F.SizeofType t) at = e.SizeofType t at
kind_step (ExprKind-F.AlignofType t) at = e.AlignofType t at
kind_step (ExprKind-F.Delete all a) at = e.Delete all a.tree at
kind_step (ExprKind-F.New n) at = n at
kind_step (ExprKind-F.Cast t a) at = e.Cast t a.tree at
kind_step (ExprKind-F.Chain a os) at = chained a.extent a.tree os
kind_step (ExprKind-F.Assign a o b) at = e.Assign o a.tree b.tree at
kind_step (ExprKind-F.Conditional c a b) at = e.Conditional c.tree a.tree b.tree at
kind_step (ExprKind-F.Throw a) at = e.Throw (perhaps a) at
kind_step (ExprKind-F.Comma a bs) at = comma_list a.extent a.tree bs

abbrev pub clause_step : Level Clause-F → InitializerClause
clause_step (Clause-F.Value a) = Value a.tree
clause_step (Clause-F.Nested b) = Nested b.0 b.1

abbrev pub given_step : Level Given-F → Making
given_step (Given-F.Args a) = FromArguments a.0 a.1
given_step (Given-F.Braces b) = FromBraces b.0 b.1

abbrev pub part_step : Level MoreKind-F → Joining
part_step (MoreKind-F.Subscript i) a at = e.Subscript a i.tree at
part_step (MoreKind-F.Call args) a at = e.Call a args.0 at
part_step MoreKind-F.Increment a at = e.PostIncrement a at
part_step MoreKind-F.Decrement a at = e.PostDecrement a at
part_step (MoreKind-F.Member reach name) a at = e.Member a reach name at
part_step (MoreKind-F.Destroy reach name) a at = e.Destroy a reach name at

abbrev pub args_step : Level Args-F → Listed
args_step a = (arguments_of a.items, a.span)

abbrev pub bound_step : Level Bound-F → BoundParts
bound_step b = (perhaps b.size, b.span)

abbrev pub braces_step : Level Braces-F → Braced
braces_step b = (clauses_of b.clauses, b.span)

abbrev pub expr_step : Level Expr-F → Placed
expr_step e = record { extent = e.extent; tree = e.kind e.extent }

abbrev pub more_step : Level More-F → Part
more_step m = (m.kind, m.span)

abbrev pub new_step : Level New-F → Form
new_step n at = e.New n.specs n.stars (perhaps n.bound) (making_of n.given) at

abbrev pub operation_step : Level Operation-F → Operand
operation_step o = (o.operator, o.operand)

abbrev pub type_step : Level TypeId-F → TypeWritten
type_step t = Written t.specs t.ptrs (bounds_of t.bounds) t.span

-- ---- the views

-- an expression with its place
unfoldable pub placed : Expr → Placed
placed = fold-Expr InitializerClause Form Making Joining Listed BoundParts Braced Placed Part Form Operand TypeWritten clause_step kind_step given_step part_step args_step bound_step braces_step expr_step more_step new_step operation_step type_step

-- what an expression is, given its place
unfoldable pub form_of : ExprKind → Form
form_of = fold-ExprKind InitializerClause Form Making Joining Listed BoundParts Braced Placed Part Form Operand TypeWritten clause_step kind_step given_step part_step args_step bound_step braces_step expr_step more_step new_step operation_step type_step

-- an operator and its right operand
unfoldable pub operand : Operation → Operand
operand = fold-Operation InitializerClause Form Making Joining Listed BoundParts Braced Placed Part Form Operand TypeWritten clause_step kind_step given_step part_step args_step bound_step braces_step expr_step more_step new_step operation_step type_step

-- a part behind a head
unfoldable pub part : More → Part
part = fold-More InitializerClause Form Making Joining Listed BoundParts Braced Placed Part Form Operand TypeWritten clause_step kind_step given_step part_step args_step bound_step braces_step expr_step more_step new_step operation_step type_step

-- what a part makes of all before it
unfoldable pub joining : MoreKind → Joining
joining = fold-MoreKind InitializerClause Form Making Joining Listed BoundParts Braced Placed Part Form Operand TypeWritten clause_step kind_step given_step part_step args_step bound_step braces_step expr_step more_step new_step operation_step type_step

-- arguments in parentheses
unfoldable pub arguments : Args → Listed
arguments = fold-Args InitializerClause Form Making Joining Listed BoundParts Braced Placed Part Form Operand TypeWritten clause_step kind_step given_step part_step args_step bound_step braces_step expr_step more_step new_step operation_step type_step

-- clauses in braces
unfoldable pub braced : Braces → Braced
braced = fold-Braces InitializerClause Form Making Joining Listed BoundParts Braced Placed Part Form Operand TypeWritten clause_step kind_step given_step part_step args_step bound_step braces_step expr_step more_step new_step operation_step type_step

-- a clause
unfoldable pub clause_seen : Clause → InitializerClause
clause_seen = fold-Clause InitializerClause Form Making Joining Listed BoundParts Braced Placed Part Form Operand TypeWritten clause_step kind_step given_step part_step args_step bound_step braces_step expr_step more_step new_step operation_step type_step

-- what an object is made from
unfoldable pub making : Given → Making
making = fold-Given InitializerClause Form Making Joining Listed BoundParts Braced Placed Part Form Operand TypeWritten clause_step kind_step given_step part_step args_step bound_step braces_step expr_step more_step new_step operation_step type_step

-- what stands behind `new`, given its place
unfoldable pub made_new : New → Form
made_new = fold-New InitializerClause Form Making Joining Listed BoundParts Braced Placed Part Form Operand TypeWritten clause_step kind_step given_step part_step args_step bound_step braces_step expr_step more_step new_step operation_step type_step

-- a bound
unfoldable pub bound_parts : Bound → BoundParts
bound_parts = fold-Bound InitializerClause Form Making Joining Listed BoundParts Braced Placed Part Form Operand TypeWritten clause_step kind_step given_step part_step args_step bound_step braces_step expr_step more_step new_step operation_step type_step

-- a type without a name
unfoldable pub written : TypeId → TypeWritten
written = fold-TypeId InitializerClause Form Making Joining Listed BoundParts Braced Placed Part Form Operand TypeWritten clause_step kind_step given_step part_step args_step bound_step braces_step expr_step more_step new_step operation_step type_step

-- an expression as plain data
unfoldable pub tree : Expr → Expression
tree e = (placed e).tree
