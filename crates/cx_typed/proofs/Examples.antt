-- Judgements worked out, by computation.
use Rattle.std.proofs.Common.{◌≡◌, ℕ, List, [], ◌∷◌, Option, None, Some, refl, ℤ, pos, negsuc, Bool, true, false}
use Rattle.std.specs.Prelude.{codes}
use Rattle.cx_base.specs.declared.diag.Span.{Span}
use Rattle.cx_base.specs.declared.limits.Limits.{Limits}
use Rattle.cx_base.specs.declared.rule.Rule.{Rule}
use Rattle.cx_base.specs.declared.rule.Rule.TheVariants as rule
use Rattle.cx_base.specs.declared.int_type.IntType.{IntType}
use Rattle.cx_base.specs.declared.int_type.IntType.TheVariants as type
use Rattle.cx_ints.specs.declared.operators.BinOp.{BinOp}
use Rattle.cx_ints.specs.declared.operators.BinOp.TheVariants as two
use Rattle.cx_ints.specs.declared.operators.UnOp.TheVariants as one
use Rattle.cx_ints.specs.Ranges.{width, is_signed, least, greatest, fits}
use Rattle.cx_ints.specs.Conversions.{reduce, converted, promote, common, common_promoted, mixed, higher, rank}
use Rattle.cx_ints.specs.Operations.{int, delivered, quotient, counted, operation, unary_operation}
use Rattle.cx_type_defs.specs.declared.ids.VarId.{VarId}
use Rattle.cx_type_defs.specs.Same.{Form, Int, Const}
use Rattle.cx_type_defs.specs.Questions.{asked, looked, most_levels}
use Rattle.cx_state.specs.declared.kind.Birth.{Birth}
use Rattle.cx_state.specs.declared.kind.Birth.TheVariants as birth
use Rattle.cx_state.specs.declared.root.JudgeMode.TheVariants as mode
use Rattle.cx_ops.specs.declared.StrictOp.TheVariants as op
use Rattle.cx_typed.specs.declared.exprs.ChainOp.TheVariants as chain
use Rattle.cx_typed.specs.declared.judge.Outcome.{Outcome}
use Rattle.cx_typed.specs.declared.judge.Outcome.TheVariants as outcome
use Rattle.cx_typed.specs.declared.judge.Value.TheVariants as value
use Rattle.cx_typed.specs.declared.judge.KeptValue.{KeptValue}
use Rattle.cx_typed.specs.Trees.{Note, Tx, Constant, Variable, Load, Unary, Binary, Conditional, Var, OfExpr, OfVariable}
use Rattle.cx_typed.specs.Judging.{Kept, judged}
use Rattle.cx_typed.specs.Texts.{value_text_of}

abbrev mark : ℕ → Span
mark n = record { start = record { byte = n; line = 1; col = n }; end = record { byte = n; line = 1; col = n } }

-- a number of that type, at a place
abbrev num : IntType → ℕ → Note Form
num t n = record { ty = Int t; lvalue = false; span = mark n }

abbrev lit : IntType → ℤ → Tx Form
lit t z = Constant (int t z) (num t 1)

abbrev i : ℤ → Tx Form
i z = lit type.Int z

abbrev bool : ℤ → Tx Form
bool z = lit type.Bool z

abbrev calc : BinOp → Tx Form → Tx Form → Tx Form
calc o x y = Binary (chain.Strict (op.Binary o)) x y (num type.Int 7)

abbrev to : IntType → Tx Form → Tx Form
to t x = Unary (op.Convert t) x (num t 2)

abbrev name : ℕ → Tx Form
name v = Load (Variable (record { 0 = v }) (record { ty = Const (Int type.Int); lvalue = true; span = mark 4 })) (num type.Int 4)

abbrev limits : ℕ → Limits
limits cells = record { depth = 512; exprs = 1; turns = 1; cells = cells; objects = 1 }

abbrev outcome_in : List Var → Kept → Tx Form → Outcome
outcome_in vs ks x = (judged vs (limits 9) ks (record { body = OfExpr x; span = mark 9 }) mode.Constant).0

abbrev of : Tx Form → Outcome
of x = outcome_in [] [] x

abbrev is : IntType → ℤ → Outcome
is t z = outcome.Value (value.Int (int t z))

abbrev breaks : Rule → ℕ → Outcome
breaks r n = outcome.Violation (record { span = mark n; rule = r; frames = [] })

-- -2147483647 - 1
least_int : of (calc two.Sub (Unary (op.Unary one.Minus) (i (pos 2147483647)) (num type.Int 1)) (i (pos 1))) ≡ is type.Int (negsuc 2147483647)
unfolding operation unary_operation delivered fits least greatest is_signed width converted reduce common common_promoted mixed higher rank promote
least_int = refl

-- 2147483647 + 1
past_greatest : of (calc two.Add (i (pos 2147483647)) (i (pos 1))) ≡ breaks rule.Overflow 7
unfolding operation delivered fits least greatest is_signed width converted reduce common common_promoted mixed higher rank promote
past_greatest = refl

-- 1 / 0
by_zero : of (calc two.Div (i (pos 1)) (i (pos 0))) ≡ breaks rule.DivideByZero 7
unfolding operation quotient fits least greatest is_signed width converted reduce common common_promoted mixed higher rank promote
by_zero = refl

-- (-2147483647 - 1) % -1
least_by_minus_one : of (calc two.Rem (i (negsuc 2147483647)) (i (negsuc 0))) ≡ breaks rule.Quotient 7
unfolding operation quotient fits least greatest is_signed width converted reduce common common_promoted mixed higher rank promote
least_by_minus_one = refl

-- 1 << 32
shifted_past : of (calc two.Shl (i (pos 1)) (i (pos 32))) ≡ breaks rule.ShiftCount 7
unfolding operation counted least is_signed width converted reduce promote
shifted_past = refl

-- -1 << 3
shifted : of (calc two.Shl (i (negsuc 0)) (i (pos 3))) ≡ is type.Int (negsuc 7)
unfolding operation counted least is_signed width converted reduce promote
shifted = refl

-- 255 + 1, as an unsigned char
reduced : of (to type.UChar (calc two.Add (i (pos 255)) (i (pos 1)))) ≡ is type.UChar (pos 0)
unfolding operation delivered fits least greatest is_signed width converted reduce common common_promoted mixed higher rank promote
reduced = refl

-- 2, as a bool
two_is_true : of (to type.Bool (i (pos 2))) ≡ is type.Bool (pos 1)
unfolding converted
two_is_true = refl

-- !0
not_zero : of (Unary op.Not (bool (pos 0)) (num type.Bool 1)) ≡ is type.Bool (pos 1)
not_zero = refl

-- -1 < 0u
minus_one_is_large : of (Binary (chain.Strict (op.Binary two.Lt)) (to type.UInt (i (negsuc 0))) (lit type.UInt (pos 0)) (num type.Bool 7)) ≡ is type.Bool (pos 0)
unfolding operation least greatest is_signed width converted reduce common common_promoted mixed higher rank promote
minus_one_is_large = refl

-- 5 - 3 - 1, from left to right
from_the_left : of (calc two.Sub (calc two.Sub (i (pos 5)) (i (pos 3))) (i (pos 1))) ≡ is type.Int (pos 1)
unfolding operation delivered fits least greatest is_signed width converted reduce common common_promoted mixed higher rank promote
from_the_left = refl

abbrev wrong : Tx Form
wrong = to type.Bool (calc two.Div (i (pos 1)) (i (pos 0)))

-- false && 1 / 0
and_stops : of (Binary chain.And (bool (pos 0)) wrong (num type.Bool 8)) ≡ is type.Bool (pos 0)
and_stops = refl

-- true && 1 / 0
and_goes_on : of (Binary chain.And (bool (pos 1)) wrong (num type.Bool 8)) ≡ breaks rule.DivideByZero 7
unfolding operation quotient fits least greatest is_signed width converted reduce common common_promoted mixed higher rank promote
and_goes_on = refl

-- true || 1 / 0
or_stops : of (Binary chain.Or (bool (pos 1)) wrong (num type.Bool 8)) ≡ is type.Bool (pos 1)
or_stops = refl

-- false || true
or_goes_on : of (Binary chain.Or (bool (pos 0)) (bool (pos 1)) (num type.Bool 8)) ≡ is type.Bool (pos 1)
or_goes_on = refl

-- true ? 1 : 1 / 0
third_untouched : of (Conditional (bool (pos 1)) (i (pos 1)) (calc two.Div (i (pos 1)) (i (pos 0))) (num type.Int 8)) ≡ is type.Int (pos 1)
third_untouched = refl

-- false ? 1 : 1 / 0
third_taken : of (Conditional (bool (pos 0)) (i (pos 1)) (calc two.Div (i (pos 1)) (i (pos 0))) (num type.Int 8)) ≡ breaks rule.DivideByZero 7
unfolding operation quotient fits least greatest is_signed width converted reduce common common_promoted mixed higher rank promote
third_taken = refl

-- 1, 2
last_of_two : of (Binary chain.Comma (i (pos 1)) (i (pos 2)) (num type.Int 8)) ≡ is type.Int (pos 2)
last_of_two = refl

-- 1 / 0, 2
first_of_two_breaks : of (Binary chain.Comma (calc two.Div (i (pos 1)) (i (pos 0))) (i (pos 2)) (num type.Int 8)) ≡ breaks rule.DivideByZero 7
unfolding operation quotient fits least greatest is_signed width converted reduce common common_promoted mixed higher rank promote
first_of_two_breaks = refl

-- ---- variables

abbrev var : Form → Bool → Option (Tx Form) → Var
var f c x = record { name = []; ty = f; at = mark 3; is_constexpr = c; init = x }

abbrev const_int : Option (Tx Form) → Var
const_int x = var (Const (Int type.Int)) false x

abbrev kept : ℕ → Birth → ℤ → VarId × KeptValue
kept v b z = (record { 0 = v }, record { value = value.Int (int type.Int z); birth = b })

usable : outcome_in (const_int None ∷ []) (kept 0 birth.Usable (pos 6) ∷ []) (name 0) ≡ is type.Int (pos 6)
usable = refl

-- a variable that isn't kept, and one that has only an address
not_kept : outcome_in (const_int None ∷ []) [] (name 0) ≡ breaks rule.NotUsable 4
unfolding asked looked most_levels
not_kept = refl

not_usable : outcome_in (const_int None ∷ []) (kept 0 birth.Opaque (pos 6) ∷ []) (name 0) ≡ breaks rule.NotUsable 4
not_usable = refl

abbrev judged_var : ℕ → List Var → Kept → ℕ → Outcome × Kept
judged_var cells vs ks v = judged vs (limits cells) ks (record { body = OfVariable (record { 0 = v }); span = mark 9 }) mode.Keep

-- const int t = 1;
is_kept : judged_var 1 (const_int (Some (i (pos 1))) ∷ []) [] 0 ≡ (is type.Int (pos 1), kept 0 birth.Usable (pos 1) ∷ [])
unfolding asked looked most_levels
is_kept = refl

-- constexpr int x = x;
own_name : judged_var 1 (const_int (Some (name 0)) ∷ []) [] 0 ≡ (breaks rule.Indeterminate 4, [])
unfolding asked looked most_levels
own_name = refl

-- const int t = 1; constexpr int v = t; where one cell is allowed, and where two are

abbrev second : List Var
second = const_int (Some (i (pos 1))) ∷ var (Const (Int type.Int)) true (Some (name 0)) ∷ []

one_cell : judged_var 1 second (kept 0 birth.Usable (pos 1) ∷ []) 1 ≡ (breaks rule.LimitCells 3, kept 0 birth.Usable (pos 1) ∷ [])
unfolding asked looked most_levels
one_cell = refl

two_cells : judged_var 2 second (kept 0 birth.Usable (pos 1) ∷ []) 1 ≡ (is type.Int (pos 1), kept 0 birth.Usable (pos 1) ∷ kept 1 birth.Usable (pos 1) ∷ [])
unfolding asked looked most_levels
two_cells = refl

-- ---- texts

text_of_true : value_text_of (value.Int (int type.Bool (pos 1))) ≡ codes "true"
text_of_true = refl

text_of_false : value_text_of (value.Int (int type.Bool (pos 0))) ≡ codes "false"
text_of_false = refl
