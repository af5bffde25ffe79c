-- What the tokens give to a tree, and how the parts of a rule make its tree.
use Rattle.std.specs.Prelude.{ℕ, ◌-◌, Bool, true, false, not, List, [], ◌∷◌, length, map, slice_get, Option, Some, None, if◌then◌else◌, ℤ, pos}
use Rattle.cx_base.specs.declared.diag.Mark.{Mark}
use Rattle.cx_base.specs.declared.diag.Span.{Span}
use Rattle.cx_base.specs.declared.int_type.IntType.TheVariants as ty
use Rattle.cx_ints.specs.declared.int.Int.{Int as Number}
use Rattle.cx_token_defs.specs.declared.TokenKind.{TokenKind}
use Rattle.cx_token_defs.specs.declared.TokenKind.TheVariants as kind
use Rattle.cx_tree.specs.declared.names.Ident.{Ident}
use Rattle.cx_tree.specs.declared.names.TypeName.{TypeName}
use Rattle.cx_tree.specs.declared.names.FunctionName.{FunctionName}
use Rattle.cx_tree.specs.declared.names.DestructorName.{DestructorName}
use Rattle.cx_tree.specs.declared.names.OperatorName.{OperatorName}
use Rattle.cx_tree.specs.declared.names.Last.{Last}
use Rattle.cx_tree.specs.declared.operators.BinaryOp.{BinaryOp}
use Rattle.cx_tree.specs.declared.operators.BinaryOp.TheVariants as o
use Rattle.cx_tree.specs.declared.operators.AssignOp.{AssignOp}
use Rattle.cx_tree.specs.declared.operators.AssignOp.TheVariants as a
use Rattle.cx_tree.specs.declared.operators.PrefixOp.{PrefixOp}
use Rattle.cx_tree.specs.declared.operators.PrefixOp.TheVariants as p
use Rattle.cx_tree.specs.declared.operators.Overloaded.{Overloaded}
use Rattle.cx_tree.specs.declared.operators.Overloaded.TheVariants as v
use Rattle.cx_tree.specs.declared.specifiers.ClassKey.TheVariants as key
use Rattle.cx_tree.specs.declared.specifiers.Elaboration.{Elaboration}
use Rattle.cx_tree.specs.declared.specifiers.Elaboration.TheVariants as elaboration
use Rattle.cx_tree.specs.declared.specifiers.ModifierWord.{ModifierWord}
use Rattle.cx_tree.specs.declared.specifiers.ModifierWord.TheVariants as mod_word
use Rattle.cx_tree.specs.declared.specifiers.Modifier.{Modifier}
use Rattle.cx_tree.specs.declared.specifiers.SimpleType.{SimpleType}
use Rattle.cx_tree.specs.declared.specifiers.TypeWord.{TypeWord}
use Rattle.cx_tree.specs.declared.specifiers.TypeWord.TheVariants as w
use Rattle.cx_tree.specs.declared.specifiers.WordOrModifier.{WordOrModifier}
use Rattle.cx_tree.specs.declared.specifiers.WordOrModifier.TheVariants as either_word
use Rattle.cx_tree.specs.declared.specifiers.Named.{Named}
use Rattle.cx_tree.specs.declared.specifiers.Specs.{Specs}
use Rattle.cx_tree.specs.declared.specifiers.SpecsType.{SpecsType}
use Rattle.cx_tree.specs.declared.specifiers.SpecsType.TheVariants as specs_type
use Rattle.cx_tree.specs.declared.specifiers.Star.{Star}
use Rattle.cx_tree.specs.declared.specifiers.Ptrs.{Ptrs}
use Rattle.cx_tree.specs.declared.exprs.Expr.{Expr, roll-Expr}
use Rattle.cx_tree.specs.declared.exprs.ExprKind.{ExprKind}
use Rattle.cx_tree.specs.declared.exprs.ExprKind.TheVariants as e
use Rattle.cx_tree.specs.declared.exprs.Operation.{Operation, roll-Operation}
use Rattle.cx_tree.specs.declared.exprs.More.{More, roll-More}
use Rattle.cx_tree.specs.declared.exprs.MoreKind.{MoreKind}
use Rattle.cx_tree.specs.declared.exprs.MoreKind.TheVariants as m
use Rattle.cx_tree.specs.declared.exprs.Reach.{Reach}
use Rattle.cx_tree.specs.declared.exprs.Reach.TheVariants as reach
use Rattle.cx_tree.specs.declared.exprs.CastWord.{CastWord}
use Rattle.cx_tree.specs.declared.exprs.CastWord.TheVariants as cast_word
use Rattle.cx_tree.specs.declared.exprs.Args.{Args, roll-Args}
use Rattle.cx_tree.specs.declared.exprs.Braces.{Braces, roll-Braces}
use Rattle.cx_tree.specs.declared.exprs.Clause.{Clause}
use Rattle.cx_tree.specs.declared.exprs.Given.{Given}
use Rattle.cx_tree.specs.declared.exprs.New.{New, roll-New}
use Rattle.cx_tree.specs.declared.exprs.Bound.{Bound, roll-Bound}
use Rattle.cx_tree.specs.declared.exprs.TypeId.{TypeId, roll-TypeId}
use Rattle.cx_syntax.specs.declared.class.Class.{Class}
use Rattle.cx_syntax.specs.declared.class.Class.TheVariants as k
use Rattle.cx_syntax.specs.declared.lexeme.Lexeme.{Lexeme}
use Rattle.cx_syntax.specs.Linked.{flag_behind}
use Rattle.cx_syntax.specs.declared.parts.MemberPart.{MemberPart}
use Rattle.cx_syntax.specs.declared.parts.MemberPart.TheVariants as part
use Rattle.cx_syntax.specs.declared.parts.Tail.{Tail}
use Rattle.cx_syntax.specs.declared.parts.Tail.TheVariants as tail

-- ---- tokens

-- what a token of a set gives
abbrev pub pick : {A : Type 0} → (Class → Bool) → (Lexeme → A) → Lexeme → Option A
pick set f t = if set t.class then Some (f t) else None

abbrev pub no_mark : Mark
no_mark = record { byte = 0; line = 0; col = 0 }

abbrev pub start_of : Option Lexeme → Mark
start_of None = no_mark
start_of (Some t) = t.span.start

abbrev pub end_of : Option Lexeme → Mark
end_of None = no_mark
end_of (Some t) = t.span.end

-- from the first token's first byte to the end of the last
abbrev pub span_of : List Lexeme → Span
span_of ts = record { start = start_of (slice_get ts 0); end = end_of (slice_get ts (length ts - 1)) }

abbrev pub ident_of : Lexeme → Ident
ident_of t = record { text = t.text; span = t.span }

abbrev pub text_of : Lexeme → List ℕ
text_of t = t.text

abbrev pub number_of : TokenKind → Number
number_of (kind.Number n) = n
number_of _ = record { ty = ty.Int; value = pos 0 }

abbrev pub character_of : TokenKind → ℤ
character_of (kind.Char c) = c
character_of _ = pos 0

abbrev pub literal_by : Class → TokenKind → ExprKind
literal_by k.CharLiteral t = e.Char (character_of t)
literal_by k.True t = e.True
literal_by k.False t = e.False
literal_by k.Nullptr t = e.Nullptr
literal_by k.This t = e.This
literal_by _ t = e.Number (number_of t)

abbrev pub literal_of : Lexeme → ExprKind
literal_of t = literal_by t.class t.kind

abbrev pub modifier_by : Class → ModifierWord
modifier_by k.Consteval = mod_word.Consteval
modifier_by k.Constinit = mod_word.Constinit
modifier_by k.Inline = mod_word.Inline
modifier_by k.Static = mod_word.Static
modifier_by k.Extern = mod_word.Extern
modifier_by k.Virtual = mod_word.Virtual
modifier_by k.Explicit = mod_word.Explicit
modifier_by k.Const = mod_word.Const
modifier_by _ = mod_word.Constexpr

abbrev pub modifier_of : Lexeme → Modifier
modifier_of t = record { word = modifier_by t.class; span = t.span }

abbrev pub word_by : Class → TypeWord
word_by k.Bool = w.Bool
word_by k.Char = w.Char
word_by k.Short = w.Short
word_by k.Int = w.Int
word_by k.Long = w.Long
word_by k.Signed = w.Signed
word_by k.Unsigned = w.Unsigned
word_by k.Auto = w.Auto
word_by _ = w.Void

abbrev pub word_of : Lexeme → SimpleType
word_of t = record { word = word_by t.class; span = t.span }

abbrev pub elaboration_by : Class → Elaboration
elaboration_by k.Class = elaboration.Class key.Class
elaboration_by k.Union = elaboration.Class key.Union
elaboration_by k.Enum = elaboration.Enum
elaboration_by _ = elaboration.Class key.Struct

abbrev pub elaboration_of : Lexeme → Elaboration
elaboration_of t = elaboration_by t.class

abbrev pub binary_by : Class → BinaryOp
binary_by k.PipePipe = o.LogicalOr
binary_by k.AmpAmp = o.LogicalAnd
binary_by k.Pipe = o.BitOr
binary_by k.Caret = o.BitXor
binary_by k.Amp = o.BitAnd
binary_by k.EqualEqual = o.Equal
binary_by k.NotEqual = o.NotEqual
binary_by k.Less = o.Less
binary_by k.Greater = o.Greater
binary_by k.LessEqual = o.LessEqual
binary_by k.GreaterEqual = o.GreaterEqual
binary_by k.ShiftLeft = o.ShiftLeft
binary_by k.ShiftRight = o.ShiftRight
binary_by k.Plus = o.Add
binary_by k.Minus = o.Subtract
binary_by k.Slash = o.Divide
binary_by k.Percent = o.Remainder
binary_by _ = o.Multiply

abbrev pub binary_of : Lexeme → BinaryOp
binary_of t = binary_by t.class

abbrev pub assignment_by : Class → AssignOp
assignment_by k.PlusEqual = a.Add
assignment_by k.MinusEqual = a.Subtract
assignment_by k.StarEqual = a.Multiply
assignment_by k.SlashEqual = a.Divide
assignment_by k.PercentEqual = a.Remainder
assignment_by k.ShiftLeftEqual = a.ShiftLeft
assignment_by k.ShiftRightEqual = a.ShiftRight
assignment_by k.AmpEqual = a.BitAnd
assignment_by k.CaretEqual = a.BitXor
assignment_by k.PipeEqual = a.BitOr
assignment_by _ = a.Plain

abbrev pub assignment_of : Lexeme → AssignOp
assignment_of t = assignment_by t.class

abbrev pub prefix_by : Class → PrefixOp
prefix_by k.PlusPlus = p.Increment
prefix_by k.MinusMinus = p.Decrement
prefix_by k.Star = p.Indirection
prefix_by k.Amp = p.Address
prefix_by k.Plus = p.Plus
prefix_by k.Minus = p.Minus
prefix_by k.Not = p.Not
prefix_by _ = p.Complement

abbrev pub prefix_of : Lexeme → PrefixOp
prefix_of t = prefix_by t.class

-- a function's operator of one token
abbrev pub overloaded_by : Class → Overloaded
overloaded_by k.Arrow = v.Arrow
overloaded_by k.Tilde = v.Complement
overloaded_by k.Not = v.Not
overloaded_by k.PlusPlus = v.Increment
overloaded_by k.MinusMinus = v.Decrement
overloaded_by k.Equal = v.Assign a.Plain
overloaded_by k.PlusEqual = v.Assign a.Add
overloaded_by k.MinusEqual = v.Assign a.Subtract
overloaded_by k.StarEqual = v.Assign a.Multiply
overloaded_by k.SlashEqual = v.Assign a.Divide
overloaded_by k.PercentEqual = v.Assign a.Remainder
overloaded_by k.ShiftLeftEqual = v.Assign a.ShiftLeft
overloaded_by k.ShiftRightEqual = v.Assign a.ShiftRight
overloaded_by k.AmpEqual = v.Assign a.BitAnd
overloaded_by k.CaretEqual = v.Assign a.BitXor
overloaded_by k.PipeEqual = v.Assign a.BitOr
overloaded_by c = v.Binary (binary_by c)

abbrev pub overloaded_of : Lexeme → Overloaded
overloaded_of t = overloaded_by t.class

abbrev pub step_by : Class → MoreKind
step_by k.MinusMinus = m.Decrement
step_by _ = m.Increment

abbrev pub step_of : Lexeme → MoreKind
step_of t = step_by t.class

abbrev pub reach_by : Class → Reach
reach_by k.Arrow = reach.Arrow
reach_by _ = reach.Dot

abbrev pub reach_of : Lexeme → Reach
reach_of t = reach_by t.class

abbrev pub cast_word_by : Class → CastWord
cast_word_by k.ConstCast = cast_word.Const
cast_word_by k.ReinterpretCast = cast_word.Reinterpret
cast_word_by _ = cast_word.Static

abbrev pub cast_word_of : Lexeme → CastWord
cast_word_of t = cast_word_by t.class

abbrev pub either_by : Class → Span → WordOrModifier
either_by k.Void s = either_word.Word w.Void
either_by k.Bool s = either_word.Word w.Bool
either_by k.Char s = either_word.Word w.Char
either_by k.Short s = either_word.Word w.Short
either_by k.Int s = either_word.Word w.Int
either_by k.Long s = either_word.Word w.Long
either_by k.Signed s = either_word.Word w.Signed
either_by k.Unsigned s = either_word.Word w.Unsigned
either_by k.Auto s = either_word.Word w.Auto
either_by c s = either_word.Modifier (record { word = modifier_by c; span = s })

abbrev pub either_of : Lexeme → WordOrModifier
either_of t = either_by t.class t.span

-- ---- rules, each from the values of its parts in order

abbrev pub is_there : {A : Type 0} → Option A → Bool
is_there None = false
is_there (Some v) = true

abbrev pub or_none : {A : Type 0} → Option (List A) → List A
or_none None = []
or_none (Some l) = l

abbrev pub operator_named : Overloaded × Span → OperatorName
operator_named u = record { operator = u.0; span = u.1 }

abbrev pub destructor_named : Ident × Span → DestructorName
destructor_named u = record { class = u.0; span = u.1 }

abbrev pub function_name : (List Ident × Last) × Span → FunctionName
function_name u = record { global = false; scopes = u.0.0; last = u.0.1; span = u.1 }

abbrev pub type_name : (Option (Unit {0}) × (List Ident × Ident)) × Span → TypeName
type_name u = record { global = is_there u.0.0; scopes = u.0.1.0; name = u.0.1.1; span = u.1 }

abbrev pub named_of : Option Elaboration × TypeName → Named
named_of u = record { word = u.0; name = u.1 }

-- specifiers hold a token
abbrev pub is_specified : List Modifier × Option SpecsType → Bool
is_specified ([], None) = false
is_specified (modifiers, Some t) = true
is_specified (x ∷ xs, None) = true

abbrev pub words_of : SimpleType × List WordOrModifier → SpecsType
words_of u = specs_type.Words u.0.word u.1

abbrev pub named_type : Named × List Modifier → SpecsType
named_type u = specs_type.Named u.0 u.1

abbrev pub type_or_none : Option SpecsType → SpecsType
type_or_none None = specs_type.Missing
type_or_none (Some t) = t

abbrev pub specs_of : (List Modifier × Option SpecsType) × Span → Specs
specs_of u = record { modifiers = u.0.0; ty = type_or_none u.0.1; span = u.1 }

abbrev pub star_of : Option (Unit {0}) × Span → Star
star_of u = record { is_const = is_there u.0; span = u.1 }

abbrev pub ptrs_of : List Star × Option (Unit {0}) → Ptrs
ptrs_of u = record { stars = u.0; is_reference = is_there u.1 }

abbrev pub bound_of : Option Expr × Span → Bound
bound_of u = roll-Bound (record { size = u.0; span = u.1 })

abbrev pub typeid_of : (Specs × (Ptrs × List Bound)) × Span → TypeId
typeid_of u = roll-TypeId (record { specs = u.0.0; ptrs = u.0.1.0; bounds = u.0.1.1; span = u.1 })

abbrev pub expr_of : ExprKind × Span → Expr
expr_of u = roll-Expr (record { extent = u.1; kind = u.0 })

abbrev pub args_of : Option (List Expr) × Span → Args
args_of u = roll-Args (record { items = or_none u.0; span = u.1 })

abbrev pub braces_of : Option (List Clause) × Span → Braces
braces_of u = roll-Braces (record { clauses = or_none u.0; span = u.1 })

abbrev pub name_of : (Option (Unit {0}) × (List Ident × Last)) × Span → ExprKind
name_of u = e.Name (record { global = is_there u.0.0; scopes = u.0.1.0; last = u.0.1.1; span = u.1 })

abbrev pub made_of_word : SimpleType × Given → ExprKind
made_of_word u = e.OfWord u.0 u.1

abbrev pub made_of_type : TypeName × Given → ExprKind
made_of_type u = e.OfType u.0 u.1

abbrev pub named_cast : CastWord × (TypeId × Expr) → ExprKind
named_cast u = e.NamedCast u.0 u.1.0 u.1.1

abbrev pub member_by : Reach → MemberPart → MoreKind
member_by r (part.Name f) = m.Member r f
member_by r (part.Destructor t) = m.Destroy r t

abbrev pub member_of : Reach × MemberPart → MoreKind
member_of u = member_by u.0 u.1

abbrev pub more_of : MoreKind × Span → More
more_of u = roll-More (record { kind = u.0; span = u.1 })

abbrev pub postfixed : (Expr × List More) × Span → Expr
postfixed ((head, []), s) = head
postfixed ((head, more ∷ mores), s) = expr_of (e.Postfix head (more ∷ mores), s)

-- ---- operands, each with whether it ends in the type of a `new`

abbrev pub Operand : Type 0
Operand = Expr × Bool

abbrev pub closed : Expr → Operand
closed x = (x, false)

abbrev pub closed_kind : ExprKind × Span → Operand
closed_kind u = (expr_of u, false)

abbrev pub prefixed : (PrefixOp × Operand) × Span → Operand
prefixed u = (expr_of (e.Prefix u.0.0 u.0.1.0, u.1), u.0.1.1)

abbrev pub sizeof_operand : Operand × Span → Operand
sizeof_operand u = (expr_of (e.SizeofExpr u.0.0, u.1), u.0.1)

abbrev pub deleted : (Option (Unit {0}) × Operand) × Span → Operand
deleted u = (expr_of (e.Delete (is_there u.0.0) u.0.1.0, u.1), u.0.1.1)

abbrev pub new_of : Specs × (List Star × (Option Expr × Option Given)) → New
new_of u = roll-New (record { specs = u.0; stars = u.1.0; bound = u.1.1.0; given = u.1.1.1 })

abbrev pub new_operand : (Specs × (List Star × (Option Expr × Option Given))) × Span → Operand
new_operand u = (expr_of (e.New (new_of u.0), u.1), not (is_there u.0.1.1.1))

abbrev pub cast_of : (TypeId × Operand) × Span → Operand
cast_of u = (expr_of (e.Cast u.0.0 u.0.1.0, u.1), u.0.1.1)

-- an operator and its right operand
abbrev pub Turn : Type 0
Turn = BinaryOp × Operand

abbrev pub ends_open : Turn → Bool
ends_open u = u.1.1

abbrev pub operation_of : Turn → Operation
operation_of u = roll-Operation (record { operator = u.0; operand = u.1.0 })

abbrev pub last_open : Bool → List Turn → Bool
last_open open_new turns = flag_behind ends_open open_new turns

abbrev pub chained : (Operand × List Turn) × Span → Operand
chained ((first, []), s) = first
chained ((first, turn ∷ turns), s) = (expr_of (e.Chain first.0 (map operation_of (turn ∷ turns)), s), last_open first.1 (turn ∷ turns))

-- ---- what holds chains

abbrev pub assigned_of : AssignOp × Expr → Tail
assigned_of u = tail.Assigned u.0 u.1

abbrev pub chosen_of : Expr × Expr → Tail
chosen_of u = tail.Chosen u.0 u.1

abbrev pub tailed_by : Expr → Span → Option Tail → Expr
tailed_by first s None = first
tailed_by first s (Some (tail.Assigned operator right)) = expr_of (e.Assign first operator right, s)
tailed_by first s (Some (tail.Chosen left right)) = expr_of (e.Conditional first left right, s)

abbrev pub tailed : (Operand × Option Tail) × Span → Expr
tailed u = tailed_by u.0.0.0 u.1 u.0.1

abbrev pub chosen_by : Expr → Span → Option (Expr × Expr) → Expr
chosen_by first s None = first
chosen_by first s (Some u) = expr_of (e.Conditional first u.0 u.1, s)

abbrev pub condition : (Operand × Option (Expr × Expr)) × Span → Expr
condition u = chosen_by u.0.0.0 u.1 u.0.1

abbrev pub thrown : Option Expr × Span → Expr
thrown u = expr_of (e.Throw u.0, u.1)

abbrev pub comma_of : (Expr × List Expr) × Span → Expr
comma_of ((first, []), s) = first
comma_of ((first, other ∷ others), s) = expr_of (e.Comma first (other ∷ others), s)
