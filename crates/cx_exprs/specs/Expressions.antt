-- The typed form of an expression or an initializer, or its first fault: of the nodes from left to right, operands before what is made of
-- them, and at one node the rule that is told first ([expr], [dcl.init]).
use Rattle.std.specs.Prelude.{if◌then◌else◌}
use Rattle.cx_base.specs.declared.int_type.IntType.{IntType}
use Rattle.cx_base.specs.declared.int_type.IntType.TheVariants as type
use Rattle.cx_base.specs.declared.rule.Rule.TheVariants as rule
use Rattle.cx_tree.specs.declared.exprs.CastWord.TheVariants as cast_word
use Rattle.cx_plain.specs.Declarations.{Initializer, Equals, EqualsList, DirectList, Direct}
use Rattle.cx_plain.specs.Expressions as e
use Rattle.cx_plain.specs.Expressions.{Expression, no_arguments, argument, no_clauses, clause, Value, FromArguments, FromBraces}
use Rattle.cx_plain.specs.Spans.{scalar_span, span_of}
use Rattle.cx_exprs.specs.Forms.{binary, cast, comma, conditional, literal, named, narrowed, number, size, unary, zero_of}
use Rattle.cx_exprs.specs.Operators.{is_built, planned_prefix}
use Rattle.cx_exprs.specs.Parts.{Tree, as_value, type_of}
use Rattle.cx_exprs.specs.TypeWords.{type_written, word_type}
use Rattle.cx_exprs.specs.Typing.{Typed, Good, World, and_then, broken, node}

abbrev pub typed : Expression → World → Typed Tree
typed (e.Number i at) w = node at (literal i at) w
typed (e.Character c at) w = node at (literal (record { ty = type.Char; value = c }) at) w
typed (e.True at) w = node at (literal (number type.Bool 1) at) w
typed (e.False at) w = node at (literal (number type.Bool 0) at) w
typed (e.Paren a at) w = typed a w
typed (e.Name n at) w = named n at w
-- T(), T{}, T(a), T{a}
typed (e.OfWord t (FromArguments no_arguments s) at) w = and_then (word_type t w) (λ ty u. Good (zero_of ty at) u)
typed (e.OfWord t (FromBraces no_clauses s) at) w = and_then (word_type t w) (λ ty u. Good (zero_of ty at) u)
typed (e.OfWord t (FromArguments (argument a no_arguments) s) at) w = and_then (word_type t w) (λ ty u. and_then (typed a u) (λ x v. node at (cast ty x at) v))
typed (e.OfWord t (FromBraces (clause (Value a) no_clauses) s) at) w =
    and_then (word_type t w) (λ ty u. and_then (typed a u) (λ x v. and_then (narrowed ty x v) (λ _ z. node at (cast ty x at) z)))
typed (e.NamedCast cast_word.Static t a at) w = and_then (type_written t w) (λ ty u. and_then (typed a u) (λ x v. node at (cast ty x at) v))
typed (e.SizeofType t at) w = and_then (type_written t w) (λ ty u. Good (size ty at) u)
typed (e.AlignofType t at) w = and_then (type_written t w) (λ ty u. Good (size ty at) u)
typed (e.Prefix o a at) w = if is_built o then and_then (typed a w) (λ x u. node at (unary (planned_prefix o (type_of x)) x at) u) else broken rule.LeftOutForm at
typed (e.Binary o a b at) w = and_then (typed a w) (λ x u. and_then (typed b u) (λ y v. node at (binary o x y at) v))
typed (e.Comma a b at) w = and_then (typed a w) (λ x u. and_then (typed b u) (λ y v. node at (comma x y at) v))
typed (e.Conditional c a b at) w =
    and_then (typed c w) (λ z t. and_then (typed a t) (λ x u. and_then (typed b u) (λ y v. node at (conditional z x y at) v)))
-- what isn't built
typed a w = broken rule.LeftOutForm (span_of a)

-- a value in braces ([dcl.init.list])
abbrev pub in_braces : IntType → Expression → World → Typed Tree
in_braces ty a w = and_then (typed a w) (λ x u. and_then (narrowed ty x u) (λ _ v. Good (as_value ty x) v))

abbrev pub plainly : IntType → Expression → World → Typed Tree
plainly ty a w = and_then (typed a w) (λ x u. Good (as_value ty x) u)

-- what an object of this type is initialized from ([dcl.init])
abbrev pub typed_init : IntType → Initializer → World → Typed Tree
typed_init ty (Equals a at) w = plainly ty a w
typed_init ty (Direct (argument a no_arguments) s at) w = plainly ty a w
typed_init ty (EqualsList no_clauses s at) w = Good (zero_of ty s) w
typed_init ty (DirectList no_clauses s at) w = Good (zero_of ty s) w
typed_init ty (EqualsList (clause (Value a) no_clauses) s at) w = in_braces ty a w
typed_init ty (DirectList (clause (Value a) no_clauses) s at) w = in_braces ty a w
typed_init ty i w = broken rule.LeftOutForm (scalar_span i)
