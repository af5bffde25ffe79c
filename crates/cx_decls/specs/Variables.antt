-- Variables of namespaces ([dcl.pre], [dcl.constexpr], [dcl.init]).
use Rattle.std.specs.Prelude.{Bool, true, false, not, ◌||◌, List, [], ◌∷◌, Option, None, Some, is_none}
use Rattle.cx_base.specs.declared.diag.Span.{Span}
use Rattle.cx_base.specs.declared.int_type.IntType.{IntType}
use Rattle.cx_base.specs.declared.rule.Rule.TheVariants as rule
use Rattle.cx_plain.specs.Declarations.{Declarator, Initializer}
use Rattle.cx_plain.specs.Spans.{scalar_span}
use Rattle.cx_state.specs.declared.root.JudgeMode.TheVariants as mode
use Rattle.cx_tree.specs.declared.names.Ident.{Ident}
use Rattle.cx_tree.specs.declared.specifiers.Specs.{Specs}
use Rattle.cx_type_defs.specs.declared.ids.VarId.{VarId}
use Rattle.cx_typed.specs.declared.judge.Outcome.{Outcome}
use Rattle.cx_typed.specs.declared.judge.Outcome.TheVariants as outcome
use Rattle.cx_typed.specs.declared.lines.LineKind.TheVariants as line_kind
use Rattle.cx_typed.specs.Trees.{Var, OfVariable}
use Rattle.cx_exprs.specs.declared.words.Named.{Named}
use Rattle.cx_exprs.specs.declared.words.Named.TheVariants as named
use Rattle.cx_exprs.specs.Declaring.{const_var, initialized, introduced, with_line}
use Rattle.cx_exprs.specs.Expressions.{typed_init}
use Rattle.cx_exprs.specs.TypeWords.{bounds_in, int_in, is_decorated, named_type}
use Rattle.cx_exprs.specs.Typing.{Alternative, Typed, Good, Fault, World, and_then, broken, judging, node}
use Rattle.cx_decls.specs.declared.specifiers.Specifiers.{Specifiers}
use Rattle.cx_decls.specs.Specifiers.{specifiers, stands, stands_twice}

-- ---- which forms are built

-- neither constexpr nor const, or others beside them
abbrev pub is_unbuilt_kind : Specifiers → Bool
is_unbuilt_kind s = s.others || not (stands s.constexpr || stands s.konst)

-- a type that isn't an integer type; words that name none are told as such
abbrev pub is_unbuilt_type : Named → Bool
is_unbuilt_type named.Auto = true
is_unbuilt_type named.Other = true
is_unbuilt_type _ = false

-- no name alone with an initializer
abbrev pub is_unbuilt_declarator : Declarator → Bool
is_unbuilt_declarator d = is_decorated d.ptrs (bounds_in d.bounds) || is_none d.init

abbrev pub has_unbuilt : List Declarator → Bool
has_unbuilt [] = false
has_unbuilt (d ∷ ds) = is_unbuilt_declarator d || has_unbuilt ds

-- at least one variable is declared
abbrev pub has_none : List Declarator → Bool
has_none [] = true
has_none (d ∷ ds) = false

abbrev pub built : Specs → List Declarator → Alternative (Unit {0})
built s ds = record {
  tests =
      (is_unbuilt_kind (specifiers s), rule.LeftOutForm) ∷
      (is_unbuilt_type (named_type s.ty), rule.LeftOutForm) ∷
      (has_none ds, rule.LeftOutForm) ∷
      (has_unbuilt ds, rule.LeftOutForm) ∷ [];
  form = tt;
}

-- ---- specifiers ([dcl.type.simple], [dcl.spec])

-- what is said of all variables of a declaration
pub record Declared : Type 0 where
  pub ty : IntType
  pub is_constexpr : Bool

abbrev pub is_nothing : Named → Bool
is_nothing named.Nothing = true
is_nothing _ = false

abbrev pub declares : Named → Specifiers → Alternative Declared
declares n s = record {
  tests =
      (is_nothing n, rule.BadType) ∷
      (stands_twice s.constexpr, rule.BadSpecifier) ∷
      (stands_twice s.konst, rule.BadSpecifier) ∷ [];
  form = record { ty = int_in n; is_constexpr = stands s.constexpr };
}

-- ---- a declarator, whose name is visible behind it ([basic.scope.pdecl])

abbrev pub named_var : Declared → Ident → Var
named_var d n = const_var d.ty d.is_constexpr n.text n.span

-- ---- the initializer, and its judgement ([dcl.init], [expr.const])

abbrev pub judged_init : VarId → Span → World → Typed Outcome
judged_init v at w = judging mode.Keep (record { body = OfVariable v; span = at }) w

-- a variable and its outcome
abbrev pub variable : Declared → Ident → Initializer → World → Typed Outcome
variable d n i w =
    and_then (introduced (named_var d n) w) (λ v u. and_then (typed_init d.ty i u) (λ x t. judged_init v (scalar_span i) (initialized v x t)))

-- ---- what comes of an outcome

-- a constexpr variable adds a line ([dcl.constexpr])
abbrev pub required : Ident → Outcome → World → Typed (Unit {0})
required n (outcome.Value x) w = Good tt (with_line line_kind.Constexpr n.span.start n.text x w)
required n (outcome.Violation d) w = Fault d

-- a const variable is tried: where that fails it isn't usable, and no rule is broken
abbrev pub tried : Outcome → World → Typed (Unit {0})
tried o w = Good tt w

abbrev pub concluded : Bool → Ident → Outcome → World → Typed (Unit {0})
concluded true n o w = required n o w
concluded false n o w = tried o w

-- one declarator; each has an initializer
abbrev pub declared_by : Declared → Ident → Option Initializer → World → Typed (Unit {0})
declared_by d n None w = broken rule.LeftOutForm n.span
declared_by d n (Some i) w = and_then (variable d n i w) (concluded d.is_constexpr n)

abbrev pub declarators : Declared → List Declarator → World → Typed (Unit {0})
declarators d [] w = Good tt w
declarators d (v ∷ vs) w = and_then (declared_by d v.name v.init w) (λ _ u. declarators d vs u)

-- a declaration of variables: left out at once where a part of it isn't built
abbrev pub variables : Specs → List Declarator → Span → World → Typed (Unit {0})
variables s ds at w =
    and_then (node at (built s ds) w) (λ _ u. and_then (node s.span (declares (named_type s.ty) (specifiers s)) u) (λ d t. declarators d ds t))
