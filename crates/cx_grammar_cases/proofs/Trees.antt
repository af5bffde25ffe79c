-- The trees of expressions in short words. All places are one.
use Rattle.std.proofs.Common.{ℕ, Bool, true, false, List, [], ◌∷◌, map, Option, None, pos}
use Prim.Native.String.{String}
use Rattle.std.specs.Prelude.{codes}
use Rattle.cx_base.specs.declared.int_type.IntType.TheVariants as ty
use Rattle.cx_tree.specs.declared.names.Ident.{Ident}
use Rattle.cx_tree.specs.declared.names.TypeName.{TypeName}
use Rattle.cx_tree.specs.declared.names.DestructorName.{DestructorName}
use Rattle.cx_tree.specs.declared.names.FunctionName.{FunctionName}
use Rattle.cx_tree.specs.declared.names.Last.{Last}
use Rattle.cx_tree.specs.declared.names.Last.TheVariants as last
use Rattle.cx_tree.specs.declared.operators.BinaryOp.{BinaryOp}
use Rattle.cx_tree.specs.declared.operators.PrefixOp.{PrefixOp}
use Rattle.cx_tree.specs.declared.operators.Overloaded.{Overloaded}
use Rattle.cx_tree.specs.declared.specifiers.ClassKey.TheVariants as key
use Rattle.cx_tree.specs.declared.specifiers.Elaboration.{Elaboration}
use Rattle.cx_tree.specs.declared.specifiers.Elaboration.TheVariants as elaboration
use Rattle.cx_tree.specs.declared.specifiers.ModifierWord.{ModifierWord}
use Rattle.cx_tree.specs.declared.specifiers.Modifier.{Modifier}
use Rattle.cx_tree.specs.declared.specifiers.SimpleType.{SimpleType}
use Rattle.cx_tree.specs.declared.specifiers.TypeWord.{TypeWord}
use Rattle.cx_tree.specs.declared.specifiers.WordOrModifier.{WordOrModifier}
use Rattle.cx_tree.specs.declared.specifiers.WordOrModifier.TheVariants as either
use Rattle.cx_tree.specs.declared.specifiers.Specs.{Specs}
use Rattle.cx_tree.specs.declared.specifiers.SpecsType.{SpecsType}
use Rattle.cx_tree.specs.declared.specifiers.SpecsType.TheVariants as ty_of
use Rattle.cx_tree.specs.declared.specifiers.Star.{Star}
use Rattle.cx_tree.specs.declared.specifiers.Ptrs.{Ptrs}
use Rattle.cx_tree.specs.declared.exprs.Expr.{Expr, roll-Expr}
use Rattle.cx_tree.specs.declared.exprs.ExprKind.{ExprKind}
use Rattle.cx_tree.specs.declared.exprs.ExprKind.TheVariants as e
use Rattle.cx_tree.specs.declared.exprs.Operation.{Operation, roll-Operation}
use Rattle.cx_tree.specs.declared.exprs.More.{More, roll-More}
use Rattle.cx_tree.specs.declared.exprs.MoreKind.{MoreKind}
use Rattle.cx_tree.specs.declared.exprs.Args.{Args, roll-Args}
use Rattle.cx_tree.specs.declared.exprs.Braces.{Braces, roll-Braces}
use Rattle.cx_tree.specs.declared.exprs.Clause.{Clause}
use Rattle.cx_tree.specs.declared.exprs.Given.{Given}
use Rattle.cx_tree.specs.declared.exprs.New.{roll-New}
use Rattle.cx_tree.specs.declared.exprs.Bound.{Bound, roll-Bound}
use Rattle.cx_tree.specs.declared.exprs.TypeId.{TypeId, roll-TypeId}
use Rattle.cx_grammar_cases.proofs.Words.{no_span}

-- ---- names

abbrev pub ident : String → Ident
ident t = record { text = codes t; span = no_span }

abbrev pub scoped : List String → Last → FunctionName
scoped scopes l = record { global = false; scopes = map ident scopes; last = l; span = no_span }

-- the same with `::` before it
abbrev pub in_global : FunctionName → FunctionName
in_global name = record name { global = true }

abbrev pub operator : Overloaded → Last
operator o = last.Operator (record { operator = o; span = no_span })

abbrev pub destructor_name : String → DestructorName
destructor_name t = record { class = ident t; span = no_span }

abbrev pub simple : TypeWord → SimpleType
simple w = record { word = w; span = no_span }

abbrev pub name_in : List String → String → FunctionName
name_in scopes t = scoped scopes (last.Ident (ident t))

abbrev pub plain_name : String → FunctionName
plain_name t = name_in [] t

abbrev pub operator_name : Overloaded → FunctionName
operator_name o = scoped [] (operator o)

abbrev pub type_in : Bool → List String → String → TypeName
type_in global scopes t = record { global = global; scopes = map ident scopes; name = ident t; span = no_span }

abbrev pub type_name : String → TypeName
type_name t = type_in false [] t

-- ---- specifiers and types

abbrev pub a_struct : Elaboration
a_struct = elaboration.Class key.Struct

abbrev pub a_class : Elaboration
a_class = elaboration.Class key.Class

abbrev pub a_union : Elaboration
a_union = elaboration.Class key.Union

abbrev pub an_enum : Elaboration
an_enum = elaboration.Enum

abbrev pub mod_of : ModifierWord → Modifier
mod_of w = record { word = w; span = no_span }

abbrev pub word : TypeWord → WordOrModifier
word w = either.Word w

abbrev pub modifier : ModifierWord → WordOrModifier
modifier w = either.Modifier (mod_of w)

abbrev pub untyped : SpecsType
untyped = ty_of.Missing

abbrev pub worded : TypeWord → List WordOrModifier → SpecsType
worded w ws = ty_of.Words w ws

abbrev pub named : Option Elaboration → TypeName → List ModifierWord → SpecsType
named word t behind = ty_of.Named (record { word = word; name = t }) (map mod_of behind)

abbrev pub specs : List ModifierWord → SpecsType → Specs
specs before t = record { modifiers = map mod_of before; ty = t; span = no_span }

abbrev pub of_word : TypeWord → Specs
of_word w = specs [] (worded w [])

abbrev pub of_name : TypeName → Specs
of_name t = specs [] (named None t [])

-- whether `const` stands behind it
abbrev pub star : Bool → Star
star is_const = record { is_const = is_const; span = no_span }

abbrev pub pointers : List Bool → Bool → Ptrs
pointers stars is_reference = record { stars = map star stars; is_reference = is_reference }

abbrev pub bound : Option Expr → Bound
bound size = roll-Bound (record { size = size; span = no_span })

abbrev pub unbounded : Bound
unbounded = bound None

abbrev pub declared : Specs → Ptrs → List Bound → TypeId
declared s p bounds = roll-TypeId (record { specs = s; ptrs = p; bounds = bounds; span = no_span })

abbrev pub type_id : Specs → TypeId
type_id s = declared s (pointers [] false) []

-- ---- expressions

abbrev pub expr : ExprKind → Expr
expr kind = roll-Expr (record { extent = no_span; kind = kind })

abbrev pub name : String → Expr
name t = expr (e.Name (plain_name t))

abbrev pub number : ℕ → Expr
number n = expr (e.Number (record { ty = ty.Int; value = pos n }))

abbrev pub paren : Expr → Expr
paren x = expr (e.Paren x)

abbrev pub prefix : PrefixOp → Expr → Expr
prefix o x = expr (e.Prefix o x)

abbrev pub operation : BinaryOp × Expr → Operation
operation u = roll-Operation (record { operator = u.0; operand = u.1 })

abbrev pub chain : Expr → List (BinaryOp × Expr) → Expr
chain first others = expr (e.Chain first (map operation others))

abbrev pub binary : BinaryOp → Expr → Expr → Expr
binary o left right = chain left ((o, right) ∷ [])

abbrev pub cast : TypeId → Expr → Expr
cast t x = expr (e.Cast t x)

abbrev pub args : List Expr → Args
args items = roll-Args (record { items = items; span = no_span })

abbrev pub braces : List Clause → Braces
braces clauses = roll-Braces (record { clauses = clauses; span = no_span })

abbrev pub new : Specs → List Bool → Option Expr → Option Given → Expr
new s stars size g = expr (e.New (roll-New (record { specs = s; stars = map star stars; bound = size; given = g })))

abbrev pub part : MoreKind → More
part kind = roll-More (record { kind = kind; span = no_span })

abbrev pub postfix : Expr → List MoreKind → Expr
postfix head parts = expr (e.Postfix head (map part parts))
