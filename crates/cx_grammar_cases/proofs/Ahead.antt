-- What the tokens ahead tell, and the faults where only a type may stand, worked out by hand.
use Prim.Native.String.{String}
use Rattle.std.proofs.Common.{◌≡◌, ℕ, Bool, true, false, List, [], ◌∷◌, map, Option, Some, None, refl}
use Rattle.cx_base.specs.declared.rule.Rule.TheVariants.{Syntax, Nesting}
use Rattle.cx_tree.specs.declared.exprs.Expr.{Expr}
use Rattle.cx_tree.specs.declared.operators.BinaryOp.{BinaryOp}
use Rattle.cx_tree.specs.declared.operators.BinaryOp.TheVariants as o
use Rattle.cx_tree.specs.declared.operators.PrefixOp.{PrefixOp}
use Rattle.cx_tree.specs.declared.operators.PrefixOp.TheVariants as p
use Rattle.cx_syntax.specs.declared.class.Class.{Class}
use Rattle.cx_syntax.specs.declared.class.Class.TheVariants as k
use Rattle.cx_syntax.specs.Ahead.{fault_at, qtype_ahead, type_ahead, type_fault}
use Rattle.cx_syntax.specs.Classes.{words_a_to_c, words_d_to_i, words_l_to_r, words_in_s, words_t_to_w, brackets_and_marks, single_operators, arrows_and_assignments, comparisons_and_shifts, name_class, number_class, same_class}
use Rattle.cx_syntax.specs.Sets.{allowed, is_prefix, starts_unary}
use Rattle.cx_syntax.specs.Values.{binary_by, prefix_by}
use Rattle.cx_grammar_cases.proofs.Words.{Answer, answer, fault, text}

-- a text, whether a type begins it, and whether a type's name does
abbrev types : List (String × Bool × Bool)
types =
    ("int )", true, false) ∷
    ("int (", false, false) ∷
    ("const a", true, false) ∷
    ("T )", true, true) ∷
    ("T {", false, true) ∷
    ("a )", false, false) ∷
    ("a :: T", true, true) ∷
    ("T :: a", false, false) ∷
    (":: T", true, true) ∷
    ("struct a", true, false) ∷
    ("", false, false) ∷ []

abbrev told : String × Bool × Bool → Bool × Bool
told row = (type_ahead (text row.0), qtype_ahead (text row.0))

abbrev expected : String × Bool × Bool → Bool × Bool
expected row = (row.1, row.2)

types_hold : map told types ≡ map expected types
unfolding words_a_to_c words_d_to_i words_l_to_r words_in_s words_t_to_w brackets_and_marks single_operators arrows_and_assignments comparisons_and_shifts name_class number_class same_class
types_hold = refl

-- a text where an expression has no level left and a type may stand, and its fault
abbrev faults : List (String × Answer Expr)
faults =
    ("a )", fault Nesting 2) ∷
    ("a ;", fault Syntax 2) ∷
    ("T (", fault Nesting 2) ∷
    ("1 )", fault Nesting 3) ∷
    ("a :: operator", fault Nesting 2) ∷
    ("a :: T +", fault Syntax 2) ∷
    (":: 1", fault Syntax 2) ∷
    ("int )", fault Syntax 2) ∷ []

faults_hold : map (λ row. answer (type_fault (text row.0))) faults ≡ map (λ row. row.1) faults
unfolding words_a_to_c words_d_to_i words_l_to_r words_in_s words_t_to_w brackets_and_marks single_operators arrows_and_assignments comparisons_and_shifts name_class number_class same_class
faults_hold = refl

-- where an operand has no level left
abbrev operands : List (String × Answer Expr)
operands = (",", fault Syntax 2) ∷ ("a", fault Nesting 2) ∷ ("- a", fault Nesting 3) ∷ (")", fault Syntax 2) ∷ []

operands_hold : map (λ row. answer (fault_at starts_unary (text row.0))) operands ≡ map (λ row. row.1) operands
unfolding words_a_to_c words_d_to_i words_l_to_r words_in_s words_t_to_w brackets_and_marks single_operators arrows_and_assignments comparisons_and_shifts name_class number_class same_class
operands_hold = refl

-- ---- operators

abbrev picked : {A : Type 0} → Bool → A → Option A
picked true v = Some v
picked false v = None

-- a level, tightest first; whether the operand before ends in the type of a `new`; a token, and the operator that it is there
abbrev binaries : List (ℕ × Bool × Class × Option BinaryOp)
binaries =
    (0, false, k.Star, Some o.Multiply) ∷
    (0, true, k.Star, None) ∷
    (0, true, k.Slash, Some o.Divide) ∷
    (0, false, k.Minus, None) ∷
    (1, false, k.Minus, Some o.Subtract) ∷
    (1, true, k.Plus, Some o.Add) ∷
    (2, false, k.ShiftRight, Some o.ShiftRight) ∷
    (3, false, k.Less, Some o.Less) ∷
    (4, false, k.NotEqual, Some o.NotEqual) ∷
    (5, false, k.Amp, Some o.BitAnd) ∷
    (5, true, k.Amp, None) ∷
    (6, false, k.Caret, Some o.BitXor) ∷
    (7, false, k.Pipe, Some o.BitOr) ∷
    (8, false, k.AmpAmp, Some o.LogicalAnd) ∷
    (8, true, k.AmpAmp, None) ∷
    (9, true, k.PipePipe, Some o.LogicalOr) ∷ []

binaries_hold : map (λ row. picked (allowed row.0 row.1 row.2) (binary_by row.2)) binaries ≡ map (λ row. row.3) binaries
binaries_hold = refl

-- a token, and the operator that it is before an operand
abbrev prefixes : List (Class × Option PrefixOp)
prefixes =
    (k.PlusPlus, Some p.Increment) ∷ (k.MinusMinus, Some p.Decrement) ∷ (k.Star, Some p.Indirection) ∷ (k.Amp, Some p.Address) ∷
    (k.Plus, Some p.Plus) ∷ (k.Minus, Some p.Minus) ∷ (k.Not, Some p.Not) ∷ (k.Tilde, Some p.Complement) ∷ (k.Slash, None) ∷ []

prefixes_hold : map (λ row. picked (is_prefix row.0) (prefix_by row.0)) prefixes ≡ map (λ row. row.1) prefixes
prefixes_hold = refl
