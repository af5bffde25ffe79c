-- What a walk over the declarations of a unit finds ([dcl.constexpr], [basic.scope]): a line for each constant, or the first rule that is broken. The
-- one form of a declaration is `constexpr int NAME = EXPRESSION;`, with attributes or without. Any other is left out, at its own span.
use Rattle.std.specs.Prelude.{ℤ, Bool, true, false, List, [], ◌∷◌, ◌++◌, Option, Some, None, is_some, Result, Ok, Err, if◌then◌else◌}
use Rattle.std.specs.Fmt.{signed_decimal}
use Rattle.cx_base.specs.declared.diag.Span.{Span}
use Rattle.cx_base.specs.declared.limits.Limits.{Limits}
use Rattle.cx_base.specs.declared.rule.Rule.{Rule}
use Rattle.cx_base.specs.declared.rule.Rule.TheVariants as rule
use Rattle.cx_tree.specs.declared.decls.Decl.{Decl}
use Rattle.cx_tree.specs.declared.decls.DeclKind.TheFolds.{fold-Decl}
use Rattle.cx_tree.specs.declared.decls.DeclKind.TheOpen.{Decl-F, DeclKind-F}
use Rattle.cx_tree.specs.declared.decls.Entity.{Entity}
use Rattle.cx_tree.specs.declared.decls.EntityKind.{EntityKind}
use Rattle.cx_tree.specs.declared.decls.EntityKind.TheVariants as entity
use Rattle.cx_tree.specs.declared.decls.Unit.{Unit as Tree}
use Rattle.cx_tree.specs.declared.exprs.Bound.{Bound}
use Rattle.cx_tree.specs.declared.exprs.Expr.{Expr}
use Rattle.cx_tree.specs.declared.names.Ident.{Ident}
use Rattle.cx_tree.specs.declared.specifiers.Modifier.{Modifier}
use Rattle.cx_tree.specs.declared.specifiers.ModifierWord.{ModifierWord}
use Rattle.cx_tree.specs.declared.specifiers.ModifierWord.TheVariants as modifier
use Rattle.cx_tree.specs.declared.specifiers.Specs.{Specs}
use Rattle.cx_tree.specs.declared.specifiers.SpecsType.{SpecsType}
use Rattle.cx_tree.specs.declared.specifiers.SpecsType.TheVariants as specs
use Rattle.cx_tree.specs.declared.specifiers.Star.{Star}
use Rattle.cx_tree.specs.declared.specifiers.TypeWord.{TypeWord}
use Rattle.cx_tree.specs.declared.specifiers.TypeWord.TheVariants as word
use Rattle.cx_tree.specs.declared.specifiers.WordOrModifier.{WordOrModifier}
use Rattle.cx_tree.specs.declared.stmts.Init.{Init}
use Rattle.cx_tree.specs.declared.stmts.InitKind.{InitKind}
use Rattle.cx_tree.specs.declared.stmts.InitKind.TheVariants as init
use Rattle.cx_tree.specs.declared.stmts.Var.{Var}
use Rattle.cx_unit.specs.declared.found.Broken.{Broken}
use Rattle.cx_unit.specs.declared.found.Found.{Found}
use Rattle.cx_unit.specs.declared.found.Found.TheVariants.{Wrong, OutOfRange, Value}
use Rattle.cx_report.specs.declared.verdict.Line.{Line}
use Rattle.cx_report.specs.declared.verdict.LineKind.TheVariants as line_kind
use Rattle.cx_report.specs.declared.verdict.Value.TheVariants as value
use Rattle.cx_report.specs.declared.verdict.Verdict.{Verdict}
use Rattle.cx_report.specs.declared.verdict.Verdict.TheVariants.{Accepted, Refused}
use Rattle.cx_unit.specs.Exprs.{Values, found_in}
use Rattle.cx_unit.specs.Names.{value_among}

-- ---- the one form

abbrev pub is_constexpr_word : ModifierWord → Bool
is_constexpr_word modifier.Constexpr = true
is_constexpr_word _ = false

abbrev pub is_constexpr : List Modifier → Bool
is_constexpr (m ∷ []) = is_constexpr_word m.word
is_constexpr _ = false

abbrev pub is_int_word : TypeWord → List WordOrModifier → Bool
is_int_word word.Int [] = true
is_int_word _ _ = false

abbrev pub is_int : SpecsType → Bool
is_int (specs.Words first others) = is_int_word first others
is_int _ = false

-- `constexpr int`
abbrev pub is_constexpr_int : Specs → Bool
is_constexpr_int s = if is_constexpr s.modifiers then is_int s.ty else false

-- a name and what it is made from
abbrev pub Constant : Type 0
Constant = Ident × Expr

abbrev pub equal_to_kind : Ident → InitKind → Option Constant
equal_to_kind name (init.Equals e) = Some (name, e)
equal_to_kind name _ = None

-- = e
abbrev pub equal_to : Ident → Option Init → Option Constant
equal_to name None = None
equal_to name (Some i) = equal_to_kind name i.kind

-- no `*` and no `&`
abbrev pub is_plain_star : List Star → Bool → Bool
is_plain_star [] false = true
is_plain_star _ _ = false

abbrev pub is_unbound : List Bound → Bool
is_unbound [] = true
is_unbound _ = false

-- NAME = e
abbrev pub var_in : Var → Option Constant
var_in v = if is_plain_star v.ptrs.stars v.ptrs.is_reference then (if is_unbound v.bounds then equal_to v.name v.init else None) else None

-- one variable
abbrev pub vars_in : EntityKind → Option Constant
vars_in (entity.Vars (v ∷ [])) = var_in v
vars_in _ = None

abbrev pub constant_in : Entity → Option Constant
constant_in e = if is_constexpr_int e.specs then vars_in e.kind else None

-- ---- declarations

-- where a declaration stands, and the constant that it declares if it has the one form
pub record Form : Type 0 where
  pub span : Span
  pub constant : Option Constant

abbrev pub kind_step : DeclKind-F (Option Constant) Form (Unit {0}) → Option Constant
kind_step (DeclKind-F.Entity e) = constant_in e
kind_step _ = None

abbrev pub decl_step : Decl-F (Option Constant) Form (Unit {0}) → Form
decl_step d = record { span = d.span; constant = d.kind }

abbrev pub form_of : Decl → Form
form_of = fold-Decl (Option Constant) Form (Unit {0}) kind_step decl_step (λ n. tt)

abbrev pub broken : Rule → Span → Broken
broken r span = record { rule = r; span = span }

-- the value of an initializer, or the rule that is broken in it
abbrev pub value_in : Found → Result ℤ Broken
value_in (Wrong b) = Err b
value_in (OutOfRange span) = Err (broken rule.Overflow span)
value_in (Value z) = Ok z

-- A name declared before is no new one ([basic.scope]); it stands before its initializer.
abbrev pub declared : Values → Constant → Result ℤ Broken
declared values c = if is_some (value_among values c.0.text) then Err (broken rule.Redeclared c.0.span) else value_in (found_in values c.1)

abbrev pub line_of : Ident → ℤ → Line
line_of name z = record { start = name.span.start; kind = line_kind.Constexpr; name = name.text; value = value.Int z; text = signed_decimal z }

abbrev pub refused : Broken → Verdict
refused b = Refused (record { span = b.span; rule = b.rule; frames = [] })

abbrev pub with_value : Result ℤ Broken → (ℤ → Verdict) → Verdict
with_value (Ok z) next = next z
with_value (Err b) next = refused b

abbrev pub with_constant : Span → Option Constant → (Constant → Verdict) → Verdict
with_constant span None next = refused (broken rule.LeftOutForm span)
with_constant span (Some c) next = next c

-- the verdict on these declarations behind those with these values and lines
unfoldable pub walked : Values → List Line → List Decl → Verdict
walked values lines [] = Accepted lines
walked values lines (d ∷ ds) =
    with_constant (form_of d).span (form_of d).constant (λ c. with_value (declared values c) (λ z. walked (values ++ (c.0.text, z) ∷ []) (lines ++ line_of c.0 z ∷ []) ds))

-- what the tree of a unit gives; no rule of a declaration of today looks at the limits
abbrev pub verdict_of : Limits → Tree → Verdict
verdict_of limits tree = walked [] [] tree.decls
