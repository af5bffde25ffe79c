-- The verdicts of small units, worked by hand. All of a unit stands in the first line.
use Rattle.std.proofs.Common.{◌≡◌, ℕ, ◌+◌, List, [], ◌∷◌, Option, None, Some, ℤ, pos, negsuc, false, refl}
use Rattle.std.specs.Prelude.{codes}
use Rattle.cx_base.specs.declared.diag.Span.{Span}
use Rattle.cx_base.specs.declared.int_type.IntType.{IntType}
use Rattle.cx_base.specs.declared.int_type.IntType.TheVariants as type
use Rattle.cx_base.specs.declared.limits.Limits.{Limits}
use Rattle.cx_base.specs.declared.rule.Rule.{Rule}
use Rattle.cx_base.specs.declared.rule.Rule.TheVariants as rule
use Rattle.cx_ints.specs.Ranges.{width, is_signed, least, greatest, fits}
use Rattle.cx_ints.specs.Conversions.{reduce, converted, promote, common, common_promoted, mixed, higher, rank}
use Rattle.cx_ints.specs.Operations.{int, delivered, quotient, counted, operation, unary_operation}
use Rattle.cx_type_defs.specs.Questions.{asked, looked, most_levels}
use Rattle.cx_tree.specs.declared.names.Last.TheVariants.{Ident}
use Rattle.cx_tree.specs.declared.operators.BinaryOp.{BinaryOp}
use Rattle.cx_tree.specs.declared.operators.BinaryOp.TheVariants as operator
use Rattle.cx_tree.specs.declared.operators.PrefixOp.TheVariants.{Minus}
use Rattle.cx_tree.specs.declared.specifiers.ModifierWord.{ModifierWord}
use Rattle.cx_tree.specs.declared.specifiers.ModifierWord.TheVariants as modifier
use Rattle.cx_tree.specs.declared.specifiers.Specs.{Specs}
use Rattle.cx_tree.specs.declared.specifiers.SpecsType.{SpecsType}
use Rattle.cx_tree.specs.declared.specifiers.SpecsType.TheVariants as specs
use Rattle.cx_tree.specs.declared.specifiers.TypeWord.TheVariants as word
use Rattle.cx_tree.specs.declared.specifiers.WordOrModifier.TheVariants as part
use Rattle.cx_plain.specs.Declarations as d
use Rattle.cx_plain.specs.Declarations.{Initializer, Equals, EqualsList, DirectList, Direct, Declarator, Declaration}
use Rattle.cx_plain.specs.Expressions as e
use Rattle.cx_plain.specs.Expressions.{Expression, Missing, There, Bounds, no_bounds, bound, no_arguments, argument, no_clauses, clause, Value}
use Rattle.cx_typed.specs.declared.judge.Value.TheVariants as value
use Rattle.cx_typed.specs.declared.lines.Line.{Line}
use Rattle.cx_typed.specs.declared.lines.LineKind.TheVariants as line_kind
use Rattle.cx_typed.specs.declared.lines.Verdict.{Verdict}
use Rattle.cx_typed.specs.declared.lines.Verdict.TheVariants.{Accepted, Refused}
use Rattle.cx_typed.specs.Texts.{value_text_of}
use Rattle.cx_decls.specs.Walk.{verdict}

-- from one column of the first line to another
abbrev at : ℕ → ℕ → Span
at a b = record { start = record { byte = a; line = 1; col = a + 1 }; end = record { byte = b; line = 1; col = b + 1 } }

abbrev cells : ℕ → Limits
cells n = record { depth = 512; exprs = 1048576; turns = 16777216; cells = n; objects = 4194304 }

abbrev limits : Limits
limits = cells 1048576

abbrev literal : ℕ → ℕ → ℕ → Expression
literal n a b = e.Number (int type.Int (pos n)) (at a b)

abbrev long_literal : ℕ → ℕ → ℕ → Expression
long_literal n a b = e.Number (int type.Long (pos n)) (at a b)

abbrev minus : Expression → ℕ → ℕ → Expression
minus x a b = e.Prefix Minus x (at a b)

abbrev calc : BinaryOp → Expression → Expression → ℕ → ℕ → Expression
calc o x y a b = e.Binary o x y (at a b)

abbrev name : ℕ → ℕ → Expression
name letter a = e.Name (record { global = false; scopes = []; last = Ident (record { text = letter ∷ []; span = at a (a + 1) }); span = at a (a + 1) }) (at a (a + 1))

-- the specifiers, from one column to another
abbrev modified : List ModifierWord → SpecsType → ℕ → ℕ → Specs
modified [] t a b = record { modifiers = []; ty = t; span = at a b }
modified (m ∷ ms) t a b = record { modifiers = record { word = m; span = at a b } ∷ (modified ms t a b).modifiers; ty = t; span = at a b }

abbrev constexpr_int : ℕ → Specs
constexpr_int a = modified (modifier.Constexpr ∷ []) (specs.Words word.Int []) a (a + 13)

abbrev const_int : ℕ → Specs
const_int a = modified (modifier.Const ∷ []) (specs.Words word.Int []) a (a + 9)

abbrev bounded : ℕ → ℕ → Bounds → Option Initializer → Declarator
bounded letter a bs i = record { ptrs = record { stars = []; is_reference = false }; name = record { text = letter ∷ []; span = at a (a + 1) }; bounds = bs; init = i; extent = at a (a + 1) }

-- one variable, named in that column
abbrev declares : Specs → ℕ → ℕ → Initializer → Declaration
declares s letter a i = d.Variables s (bounded letter a no_bounds (Some i) ∷ []) (at a (a + 9))

-- = x
abbrev equals : Expression → Initializer
equals x = Equals x (at 0 0)

-- static_assert(x);
abbrev asserts : Expression → Declaration
asserts x = d.Assert (record { condition = x; message = None; extent = at 0 22 }) (at 0 22)

abbrev line_at : ℕ → ℕ → IntType → ℤ → Line
line_at letter a t z = record { start = record { byte = a; line = 1; col = a + 1 }; kind = line_kind.Constexpr; name = letter ∷ []; value = value.Int (int t z); text = value_text_of (value.Int (int t z)) }

-- a condition that holds, in that column
abbrev held_at : ℕ → Line
held_at a = record { start = record { byte = a; line = 1; col = a + 1 }; kind = line_kind.Assert; name = codes "-"; value = value.Int (int type.Bool (pos 1)); text = codes "true" }

abbrev refused : Rule → ℕ → ℕ → Verdict
refused r a b = Refused (record { span = at a b; rule = r; frames = [] })

-- no declaration, and `;`
nothing : verdict limits [] ≡ Accepted []
nothing = refl

empty : verdict limits (d.Empty (at 0 1) ∷ []) ≡ Accepted []
empty = refl

-- ---- constants

-- constexpr int n = -2147483648;
least_int : verdict limits (declares (constexpr_int 0) 110 14 (equals (minus (long_literal 2147483648 19 29) 18 29)) ∷ []) ≡ Accepted (line_at 110 14 type.Int (negsuc 2147483647) ∷ [])
unfolding operation unary_operation delivered quotient counted fits least greatest is_signed width converted reduce common common_promoted mixed higher rank promote asked looked most_levels
least_int = refl

-- constexpr int n{-2147483649};
narrowing : verdict limits (declares (constexpr_int 0) 110 14 (DirectList (clause (Value (minus (long_literal 2147483649 17 27) 16 27)) no_clauses) (at 15 28) (at 15 28)) ∷ []) ≡ refused rule.Narrowing 16 27
unfolding operation unary_operation delivered quotient counted fits least greatest is_signed width converted reduce common common_promoted mixed higher rank promote asked looked most_levels
narrowing = refl

-- constexpr unsigned char c = 255 + 1;
reduced : verdict limits (declares (modified (modifier.Constexpr ∷ []) (specs.Words word.Unsigned (part.Word word.Char ∷ [])) 0 23) 99 24 (equals (calc operator.Add (literal 255 28 31) (literal 1 34 35) 28 35)) ∷ []) ≡ Accepted (line_at 99 24 type.UChar (pos 0) ∷ [])
unfolding operation unary_operation delivered quotient counted fits least greatest is_signed width converted reduce common common_promoted mixed higher rank promote asked looked most_levels
reduced = refl

-- constexpr int n = -1 << 3;
shifted : verdict limits (declares (constexpr_int 0) 110 14 (equals (calc operator.ShiftLeft (minus (literal 1 19 20) 18 20) (literal 3 24 25) 18 25)) ∷ []) ≡ Accepted (line_at 110 14 type.Int (negsuc 7) ∷ [])
unfolding operation unary_operation delivered quotient counted fits least greatest is_signed width converted reduce common common_promoted mixed higher rank promote asked looked most_levels
shifted = refl

-- constexpr int n = 1 << 32;
shifted_past : verdict limits (declares (constexpr_int 0) 110 14 (equals (calc operator.ShiftLeft (literal 1 18 19) (literal 32 23 25) 18 25)) ∷ []) ≡ refused rule.ShiftCount 18 25
unfolding operation unary_operation delivered quotient counted fits least greatest is_signed width converted reduce common common_promoted mixed higher rank promote asked looked most_levels
shifted_past = refl

-- constexpr int n = 1 / 0;
by_zero : verdict limits (declares (constexpr_int 0) 110 14 (equals (calc operator.Divide (literal 1 18 19) (literal 0 22 23) 18 23)) ∷ []) ≡ refused rule.DivideByZero 18 23
unfolding operation unary_operation delivered quotient counted fits least greatest is_signed width converted reduce common common_promoted mixed higher rank promote asked looked most_levels
by_zero = refl

-- constexpr bool b = 2;
two_is_true : verdict limits (declares (modified (modifier.Constexpr ∷ []) (specs.Words word.Bool []) 0 14) 98 15 (equals (literal 2 19 20)) ∷ []) ≡ Accepted (line_at 98 15 type.Bool (pos 1) ∷ [])
unfolding operation unary_operation delivered quotient counted fits least greatest is_signed width converted reduce common common_promoted mixed higher rank promote asked looked most_levels
two_is_true = refl

-- constexpr int a(1), b{};
in_parentheses : verdict limits (d.Variables (constexpr_int 0) (bounded 97 14 no_bounds (Some (Direct (argument (literal 1 16 17) no_arguments) (at 15 18) (at 15 18))) ∷ bounded 98 20 no_bounds (Some (DirectList no_clauses (at 21 23) (at 21 23))) ∷ []) (at 0 24) ∷ []) ≡ Accepted (line_at 97 14 type.Int (pos 1) ∷ line_at 98 20 type.Int (pos 0) ∷ [])
unfolding operation unary_operation delivered quotient counted fits least greatest is_signed width converted reduce common common_promoted mixed higher rank promote asked looked most_levels
in_parentheses = refl

-- static_assert(1 == 2);
assertion_fails : verdict limits (asserts (calc operator.Equal (literal 1 14 15) (literal 2 19 20) 14 20) ∷ []) ≡ refused rule.AssertFailed 14 20
unfolding operation unary_operation delivered quotient counted fits least greatest is_signed width converted reduce common common_promoted mixed higher rank promote asked looked most_levels
assertion_fails = refl

-- static_assert(2 == 2);
assertion_holds : verdict limits (asserts (calc operator.Equal (literal 2 14 15) (literal 2 19 20) 14 20) ∷ []) ≡ Accepted (held_at 14 ∷ [])
unfolding operation unary_operation delivered quotient counted fits least greatest is_signed width converted reduce common common_promoted mixed higher rank promote asked looked most_levels
assertion_holds = refl

-- static_assert(1 / 0);
assertion_breaks : verdict limits (asserts (calc operator.Divide (literal 1 14 15) (literal 0 18 19) 14 19) ∷ []) ≡ refused rule.DivideByZero 14 19
unfolding operation unary_operation delivered quotient counted fits least greatest is_signed width converted reduce common common_promoted mixed higher rank promote asked looked most_levels
assertion_breaks = refl

-- ---- names

-- constexpr int a = b;
unknown : verdict limits (declares (constexpr_int 0) 97 14 (equals (name 98 18)) ∷ []) ≡ refused rule.UnknownName 18 19
unfolding operation unary_operation delivered quotient counted fits least greatest is_signed width converted reduce common common_promoted mixed higher rank promote asked looked most_levels
unknown = refl

-- const int x = 1; const int x = y;
redeclared : verdict limits (declares (const_int 0) 120 10 (equals (literal 1 14 15)) ∷ declares (const_int 17) 120 27 (equals (name 121 31)) ∷ []) ≡ refused rule.Redeclared 27 28
unfolding operation unary_operation delivered quotient counted fits least greatest is_signed width converted reduce common common_promoted mixed higher rank promote asked looked most_levels
redeclared = refl

-- constexpr int x = x;
own_name : verdict limits (declares (constexpr_int 0) 120 14 (equals (name 120 18)) ∷ []) ≡ refused rule.Indeterminate 18 19
unfolding operation unary_operation delivered quotient counted fits least greatest is_signed width converted reduce common common_promoted mixed higher rank promote asked looked most_levels
own_name = refl

-- constexpr int a = 6; constexpr int b = a + 1; static_assert(b == 7);
earlier : verdict limits (declares (constexpr_int 0) 97 14 (equals (literal 6 18 19)) ∷ declares (constexpr_int 21) 98 35 (equals (calc operator.Add (name 97 39) (literal 1 43 44) 39 44)) ∷ asserts (calc operator.Equal (name 98 60) (literal 7 65 66) 60 66) ∷ []) ≡ Accepted (line_at 97 14 type.Int (pos 6) ∷ line_at 98 35 type.Int (pos 7) ∷ held_at 60 ∷ [])
unfolding operation unary_operation delivered quotient counted fits least greatest is_signed width converted reduce common common_promoted mixed higher rank promote asked looked most_levels
earlier = refl

-- ---- const variables are tried

-- const int t = 1 / 0; constexpr int u = 1;
failed_trial : verdict limits (declares (const_int 0) 116 10 (equals (calc operator.Divide (literal 1 14 15) (literal 0 18 19) 14 19)) ∷ declares (constexpr_int 21) 117 35 (equals (literal 1 39 40)) ∷ []) ≡ Accepted (line_at 117 35 type.Int (pos 1) ∷ [])
unfolding operation unary_operation delivered quotient counted fits least greatest is_signed width converted reduce common common_promoted mixed higher rank promote asked looked most_levels
failed_trial = refl

-- const int t = 1 / 0; constexpr int u = t;
not_usable : verdict limits (declares (const_int 0) 116 10 (equals (calc operator.Divide (literal 1 14 15) (literal 0 18 19) 14 19)) ∷ declares (constexpr_int 21) 117 35 (equals (name 116 39)) ∷ []) ≡ refused rule.NotUsable 39 40
unfolding operation unary_operation delivered quotient counted fits least greatest is_signed width converted reduce common common_promoted mixed higher rank promote asked looked most_levels
not_usable = refl

-- const int t = 1; constexpr int v = t; where one cell is allowed, and where two are
one_cell : verdict (cells 1) (declares (const_int 0) 116 10 (equals (literal 1 14 15)) ∷ declares (constexpr_int 17) 118 31 (equals (name 116 35)) ∷ []) ≡ refused rule.LimitCells 31 32
unfolding operation unary_operation delivered quotient counted fits least greatest is_signed width converted reduce common common_promoted mixed higher rank promote asked looked most_levels
one_cell = refl

-- the same
two_cells : verdict (cells 2) (declares (const_int 0) 116 10 (equals (literal 1 14 15)) ∷ declares (constexpr_int 17) 118 31 (equals (name 116 35)) ∷ []) ≡ Accepted (line_at 118 31 type.Int (pos 1) ∷ [])
unfolding operation unary_operation delivered quotient counted fits least greatest is_signed width converted reduce common common_promoted mixed higher rank promote asked looked most_levels
two_cells = refl

-- ---- specifiers, and what is left out

-- constexpr short long a = x;
no_type : verdict limits (declares (modified (modifier.Constexpr ∷ []) (specs.Words word.Short (part.Word word.Long ∷ [])) 0 20) 97 21 (equals (name 120 25)) ∷ []) ≡ refused rule.BadType 0 20
unfolding operation unary_operation delivered quotient counted fits least greatest is_signed width converted reduce common common_promoted mixed higher rank promote asked looked most_levels
no_type = refl

-- constexpr a = x;
no_word : verdict limits (declares (modified (modifier.Constexpr ∷ []) specs.Missing 0 9) 97 10 (equals (name 120 14)) ∷ []) ≡ refused rule.BadType 0 9
unfolding operation unary_operation delivered quotient counted fits least greatest is_signed width converted reduce common common_promoted mixed higher rank promote asked looked most_levels
no_word = refl

-- constexpr constexpr int a = x;
twice : verdict limits (declares (modified (modifier.Constexpr ∷ modifier.Constexpr ∷ []) (specs.Words word.Int []) 0 23) 97 24 (equals (name 120 28)) ∷ []) ≡ refused rule.BadSpecifier 0 23
unfolding operation unary_operation delivered quotient counted fits least greatest is_signed width converted reduce common common_promoted mixed higher rank promote asked looked most_levels
twice = refl

-- const int const a = x;
const_twice : verdict limits (declares (modified (modifier.Const ∷ []) (specs.Words word.Int (part.Modifier (record { word = modifier.Const; span = at 10 15 }) ∷ [])) 0 15) 97 16 (equals (name 120 20)) ∷ []) ≡ refused rule.BadSpecifier 0 15
unfolding operation unary_operation delivered quotient counted fits least greatest is_signed width converted reduce common common_promoted mixed higher rank promote asked looked most_levels
const_twice = refl

-- const int constexpr a = 1;
both : verdict limits (declares (modified (modifier.Const ∷ []) (specs.Words word.Int (part.Modifier (record { word = modifier.Constexpr; span = at 10 19 }) ∷ [])) 0 19) 97 20 (equals (literal 1 24 25)) ∷ []) ≡ Accepted (line_at 97 20 type.Int (pos 1) ∷ [])
unfolding operation unary_operation delivered quotient counted fits least greatest is_signed width converted reduce common common_promoted mixed higher rank promote asked looked most_levels
both = refl

-- constexpr int a[1] = {1};
array : verdict limits (d.Variables (constexpr_int 0) (bounded 97 14 (bound (There (literal 1 16 17)) (at 15 18) no_bounds) (Some (EqualsList (clause (Value (literal 1 22 23)) no_clauses) (at 21 24) (at 19 24))) ∷ []) (at 0 25) ∷ []) ≡ refused rule.LeftOutForm 0 25
unfolding operation unary_operation delivered quotient counted fits least greatest is_signed width converted reduce common common_promoted mixed higher rank promote asked looked most_levels
array = refl

-- static constexpr int a = x;
static : verdict limits (d.Variables (modified (modifier.Static ∷ modifier.Constexpr ∷ []) (specs.Words word.Int []) 0 20) (bounded 97 21 no_bounds (Some (equals (name 120 25))) ∷ []) (at 0 27) ∷ []) ≡ refused rule.LeftOutForm 0 27
unfolding operation unary_operation delivered quotient counted fits least greatest is_signed width converted reduce common common_promoted mixed higher rank promote asked looked most_levels
static = refl

-- int a = x;
neither : verdict limits (d.Variables (modified [] (specs.Words word.Int []) 0 3) (bounded 97 4 no_bounds (Some (equals (name 120 8))) ∷ []) (at 0 10) ∷ []) ≡ refused rule.LeftOutForm 0 10
unfolding operation unary_operation delivered quotient counted fits least greatest is_signed width converted reduce common common_promoted mixed higher rank promote asked looked most_levels
neither = refl

-- constexpr int a = x, b; is left out before a is looked at
no_initializer : verdict limits (d.Variables (constexpr_int 0) (bounded 97 14 no_bounds (Some (equals (name 120 18))) ∷ bounded 98 21 no_bounds None ∷ []) (at 0 23) ∷ []) ≡ refused rule.LeftOutForm 0 23
unfolding operation unary_operation delivered quotient counted fits least greatest is_signed width converted reduce common common_promoted mixed higher rank promote asked looked most_levels
no_initializer = refl

-- namespace n {}
other : verdict limits (d.Other (at 0 14) ∷ []) ≡ refused rule.LeftOutForm 0 14
unfolding operation unary_operation delivered quotient counted fits least greatest is_signed width converted reduce common common_promoted mixed higher rank promote asked looked most_levels
other = refl
