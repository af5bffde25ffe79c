-- The alternatives of expressions ([expr]): tests with their rules, and the form where none holds.
use Rattle.std.specs.Prelude.{ℕ, pos, Bool, true, false, not, ◌&&◌, List, [], ◌∷◌, Option, None, Some, Result, Ok, Err, is_none, slice_get, if◌then◌else◌}
use Rattle.cx_base.specs.declared.diag.Span.{Span}
use Rattle.cx_base.specs.declared.int_type.IntType.{IntType}
use Rattle.cx_base.specs.declared.int_type.IntType.TheVariants as type
use Rattle.cx_base.specs.declared.rule.Rule.{Rule}
use Rattle.cx_base.specs.declared.rule.Rule.TheVariants as rule
use Rattle.cx_ints.specs.declared.int.Int.{Int as Number}
use Rattle.cx_ints.specs.Ranges.{fits}
use Rattle.cx_ops.specs.declared.StrictOp.TheVariants as op
use Rattle.cx_scopes.specs.declared.kinds.Entity.{Entity}
use Rattle.cx_scopes.specs.declared.kinds.Entity.TheVariants as entity
use Rattle.cx_scopes.specs.declared.kinds.LookAnswer.{LookAnswer}
use Rattle.cx_scopes.specs.declared.kinds.LookAnswer.TheVariants as look
use Rattle.cx_scopes.specs.Lookup.{find_answer}
use Rattle.cx_state.specs.declared.root.JudgeMode.TheVariants as mode
use Rattle.cx_tree.specs.declared.names.FunctionName.{FunctionName}
use Rattle.cx_tree.specs.declared.names.Ident.{Ident}
use Rattle.cx_tree.specs.declared.names.Last.{Last}
use Rattle.cx_tree.specs.declared.names.Last.TheVariants as last
use Rattle.cx_tree.specs.declared.operators.BinaryOp.{BinaryOp}
use Rattle.cx_type_defs.specs.declared.ids.VarId.{VarId}
use Rattle.cx_type_defs.specs.Same.{Form, Int, Const}
use Rattle.cx_typed.specs.declared.exprs.ChainOp.TheVariants as chain
use Rattle.cx_typed.specs.Trees.{Note, Constant, Variable, Unary, Binary, Conditional, note_of, Var, OfExpr}
use Rattle.cx_typed.specs.Well.{int_of}
use Rattle.cx_exprs.specs.declared.objects.ObjectType.{ObjectType}
use Rattle.cx_exprs.specs.declared.operators.Plan.{Plan}
use Rattle.cx_exprs.specs.declared.operators.UnaryPlan.{UnaryPlan}
use Rattle.cx_exprs.specs.Operators.{between, planned}
use Rattle.cx_exprs.specs.Parts.{Tree, as_value, fits_outcome, holds_all, loaded, prvalue, same_type, type_of}
use Rattle.cx_exprs.specs.Typing.{Alternative, Typed, Good, World, and_then, found_at, judging, node}

-- a literal ([lex.icon], [lex.ccon], [lex.bool]); each of a text is a value of its type
abbrev pub literal : Number → Span → Alternative Tree
literal i at = record { tests = (not (fits i.ty i.value), rule.NumberRange) ∷ []; form = Constant i (prvalue i.ty at) }

abbrev pub number : IntType → ℕ → Number
number ty n = record { ty = ty; value = pos n }

-- ---- names ([expr.prim.id], [basic.lookup.unqual])

-- a variable that has an integer type; others aren't built
abbrev pub variable_of : VarId → Option Var → Result (VarId × Form) Rule
variable_of v None = Err rule.LeftOutForm
variable_of v (Some d) = if is_none (int_of d.ty) then Err rule.LeftOutForm else Ok (v, d.ty)

-- what a name means where an expression is wanted
abbrev pub meant : List Var → Entity → Result (VarId × Form) Rule
meant vs (entity.Variable v) = variable_of v (slice_get vs v.0)
meant vs (entity.Named t) = Err rule.NameKind
meant vs (entity.Space s) = Err rule.NameKind
meant vs _ = Err rule.LeftOutForm

abbrev pub first_meant : List Var → List Entity → Result (VarId × Form) Rule
first_meant vs [] = Err rule.UnknownName
first_meant vs (e ∷ es) = meant vs e

abbrev pub looked_up : List Var → Result (List Entity) LookAnswer → Result (VarId × Form) Rule
looked_up vs (Ok es) = first_meant vs es
looked_up vs (Err look.Ambiguous) = Err rule.Ambiguous
looked_up vs (Err _) = Err rule.UnknownName

-- a name alone; operators' names and qualified ones aren't built
abbrev pub last_named : World → Last → Result (VarId × Form) Rule
last_named w (last.Ident n) = looked_up w.variables (find_answer w.names n.text)
last_named w (last.Operator o) = Err rule.LeftOutForm

abbrev pub unscoped : World → List Ident → Last → Result (VarId × Form) Rule
unscoped w [] l = last_named w l
unscoped w (s ∷ ss) l = Err rule.LeftOutForm

abbrev pub found : World → FunctionName → Result (VarId × Form) Rule
found w n = if n.global then Err rule.LeftOutForm else unscoped w n.scopes n.last

abbrev pub variable : VarId × Form → Span → Tree
variable v at = Variable v.0 (record { ty = v.1; lvalue = true; span = at })

abbrev pub named : FunctionName → Span → World → Typed Tree
named n at w = and_then (found_at at (found w n) w) (λ v u. Good (variable v at) u)

-- ---- operators

-- [expr.unary.op]
abbrev pub unary : UnaryPlan → Tree → Span → Alternative Tree
unary p x at = record { tests = []; form = Unary p.op (as_value p.operand x) (prvalue p.operand at) }

-- [expr.mul] to [expr.log.or]
abbrev pub planned_form : Plan → Tree → Tree → Span → Tree
planned_form p x y at = Binary p.op (as_value p.left x) (as_value p.right y) (prvalue p.result at)

abbrev pub binary : BinaryOp → Tree → Tree → Span → Alternative Tree
binary o x y at = record { tests = []; form = planned_form (planned o (type_of x) (type_of y)) x y at }

-- the right operand's type, and its object where it has one ([expr.comma])
abbrev pub comma : Tree → Tree → Span → Alternative Tree
comma x y at = record { tests = []; form = Binary chain.Comma x y (record { ty = (note_of y).ty; lvalue = (note_of y).lvalue; span = at }) }

-- ---- casts ([expr.static.cast], [expr.type.conv])

abbrev pub cast : IntType → Tree → Span → Alternative Tree
cast ty x at = record { tests = []; form = Unary (op.Convert ty) (loaded x) (prvalue ty at) }

-- an object made from nothing ([dcl.init])
abbrev pub zero_of : IntType → Span → Tree
zero_of ty at = Constant (number ty 0) (prvalue ty at)

-- a value in braces whose conversion may lose some needs a constant that fits ([dcl.init.list])
abbrev pub narrowed : IntType → Tree → World → Typed (Unit {0})
narrowed ty x w =
    if holds_all ty (type_of x) then Good tt w
    else and_then (judging mode.Narrow (record { body = OfExpr (loaded x); span = (note_of x).span }) w) (λ o u. node (note_of x).span (record { tests = (not (fits_outcome ty o), rule.Narrowing) ∷ []; form = tt }) u)

-- ---- sizes ([expr.sizeof], [expr.alignof])

abbrev pub size_of : IntType → ℕ
size_of type.Bool = 1
size_of type.Char = 1
size_of type.SChar = 1
size_of type.UChar = 1
size_of type.Short = 2
size_of type.UShort = 2
size_of type.Int = 4
size_of type.UInt = 4
size_of type.Long = 8
size_of type.ULong = 8
size_of type.LongLong = 8
size_of type.ULongLong = 8

-- the types of numbers are aligned to their sizes
abbrev pub size : IntType → Span → Tree
size ty at = Constant (number type.ULong (size_of ty)) (prvalue type.ULong at)

-- ---- c ? a : b ([expr.cond])

-- the integer type that an object has, and whether it is const
abbrev pub object_of : Form → Option ObjectType
object_of (Int t) = Some (record { ty = t; konst = false })
object_of (Const (Int t)) = Some (record { ty = t; konst = true })
object_of _ = None

abbrev pub both_or_none : Bool → Bool → Bool
both_or_none true b = b
both_or_none false b = not b

-- objects of one type
abbrev pub same_objects : Option ObjectType → Option ObjectType → Bool
same_objects (Some a) (Some b) = same_type a.ty b.ty && both_or_none a.konst b.konst
same_objects _ _ = false

abbrev pub are_alike : Note Form → Note Form → Bool
are_alike i j = i.lvalue && (j.lvalue && same_objects (object_of i.ty) (object_of j.ty))

-- one of two objects of one type is such an object; else a value, of the type of both or of their common type
abbrev pub chosen : Bool → Tree → Tree → Tree → Span → Tree
chosen true c x y at = Conditional c x y (record { ty = (note_of x).ty; lvalue = (note_of x).lvalue; span = at })
chosen false c x y at = Conditional c (as_value (between (type_of x) (type_of y)) x) (as_value (between (type_of x) (type_of y)) y) (prvalue (between (type_of x) (type_of y)) at)

abbrev pub conditional : Tree → Tree → Tree → Span → Alternative Tree
conditional c x y at = record { tests = []; form = chosen (are_alike (note_of x) (note_of y)) (as_value type.Bool c) x y at }
