-- Wrong bodies of `binary` and `unary`, each with operands at which the definition gives another answer, so that the contract
-- refuses it. They are the planted ones of which the prover's own search tells nothing.
use Rattle.std.proofs.Common.{◌≡◌, refl, sym, ap, ◌∙◌, ℤ, pos, negsuc, Result, Ok, Err, Bool, true, false, ◌&&◌, int_le}
use Rattle.cx_base.specs.declared.int_type.IntType.TheVariants as type
use Rattle.cx_base.specs.declared.rule.Rule.{Rule}
use Rattle.cx_base.specs.declared.rule.Rule.TheVariants as rule
use Rattle.cx_ints.specs.declared.int.Int.{Int}
use Rattle.cx_ints.specs.declared.operators.BinOp.{BinOp}
use Rattle.cx_ints.specs.declared.operators.BinOp.TheVariants as op
use Rattle.cx_ints.specs.declared.operators.UnOp.{UnOp}
use Rattle.cx_ints.specs.declared.operators.UnOp.TheVariants as un
use Rattle.cx_ints.specs.Ranges.{width, is_signed, least, greatest, fits}
use Rattle.cx_ints.specs.Conversions.{reduce, converted, promote, common, common_promoted, mixed, higher, rank}
use Rattle.cx_ints.specs.Operations.{int, delivered, quotient, operation, unary_operation}

abbrev number : ℤ → Int
number z = int type.Int z

abbrev falsehood : Int
falsehood = int type.Bool (pos 0)

abbrev is_value : ℤ → Result Int Rule → Bool
is_value z (Ok i) = int_le z i.value && int_le i.value z
is_value z (Err r) = false

abbrev is_division_by_zero : Result Int Rule → Bool
is_division_by_zero (Err rule.DivideByZero) = true
is_division_by_zero _ = false

abbrev is_overflow : Result Int Rule → Bool
is_overflow (Err rule.Overflow) = true
is_overflow _ = false

differ : (test : Result Int Rule → Bool) (x y : Result Int Rule) → test x ≡ false → test y ≡ true → x ≡ y → ⊥
differ test x y f g e = apart (sym f ∙ ap test e ∙ g)
  where
    apart : false ≡ true → ⊥
    apart h = absurd (cc)

-- the body answers as the definition doesn't
abbrev IsRefused : (BinOp → Int → Int → Result Int Rule) → Type 0
IsRefused body = (o : BinOp) × (a : Int) × (b : Int) × (body o a b ≡ operation o a b → ⊥)

abbrev IsRefusedUnary : (UnOp → Int → Result Int Rule) → Type 0
IsRefusedUnary body = (o : UnOp) × (a : Int) × (body o a ≡ unary_operation o a → ⊥)

refuses : (body : BinOp → Int → Int → Result Int Rule) (o : BinOp) (a b : Int) (test : Result Int Rule → Bool) → test (body o a b) ≡ false → test (operation o a b) ≡ true → IsRefused body
refuses body o a b test f g = (o, a, b, differ test (body o a b) (operation o a b) f g)

refuses_unary : (body : UnOp → Int → Result Int Rule) (o : UnOp) (a : Int) (test : Result Int Rule → Bool) → test (body o a) ≡ false → test (unary_operation o a) ≡ true → IsRefusedUnary body
refuses_unary body o a test f g = (o, a, differ test (body o a) (unary_operation o a) f g)

abbrev over : Result Int Rule → Result Int Rule → Result Int Rule
over (Ok i) other = Ok i
over (Err r) other = other

-- one value, whatever the operands are
false_always : IsRefused (λ o a b. Ok falsehood)
unfolding operation delivered quotient fits least greatest is_signed width converted reduce common common_promoted mixed higher rank promote
false_always = refuses _ op.Add (number (pos 1)) (number (pos 1)) (is_value (pos 2)) refl refl

-- another one
one_always : IsRefused (λ o a b. Ok (int type.SChar (pos 1)))
unfolding operation delivered quotient fits least greatest is_signed width converted reduce common common_promoted mixed higher rank promote
one_always = refuses _ op.Add (number (pos 1)) (number (pos 1)) (is_value (pos 2)) refl refl

-- the left operand
left_operand : IsRefused (λ o a b. Ok a)
unfolding operation delivered quotient fits least greatest is_signed width converted reduce common common_promoted mixed higher rank promote
left_operand = refuses _ op.Add (number (pos 1)) (number (pos 1)) (is_value (pos 2)) refl refl

-- the right operand
right_operand : IsRefused (λ o a b. Ok b)
unfolding operation delivered quotient fits least greatest is_signed width converted reduce common common_promoted mixed higher rank promote
right_operand = refuses _ op.Add (number (pos 1)) (number (pos 1)) (is_value (pos 2)) refl refl

-- one operation for all
adds_always : IsRefused (λ o a b. operation op.Add a b)
unfolding operation delivered quotient fits least greatest is_signed width converted reduce common common_promoted mixed higher rank promote
adds_always = refuses _ op.Sub (number (pos 1)) (number (pos 1)) (is_value (pos 0)) refl refl

-- the left operand taken for false
left_forgotten : IsRefused (λ o a b. operation o falsehood b)
unfolding operation delivered quotient fits least greatest is_signed width converted reduce common common_promoted mixed higher rank promote
left_forgotten = refuses _ op.Add (number (pos 1)) (number (pos 1)) (is_value (pos 2)) refl refl

-- the right operand taken for false
right_forgotten : IsRefused (λ o a b. operation o a falsehood)
unfolding operation delivered quotient fits least greatest is_signed width converted reduce common common_promoted mixed higher rank promote
right_forgotten = refuses _ op.Add (number (pos 1)) (number (pos 1)) (is_value (pos 2)) refl refl

-- the operands swapped
operands_swapped : IsRefused (λ o a b. operation o b a)
unfolding operation delivered quotient fits least greatest is_signed width converted reduce common common_promoted mixed higher rank promote
operands_swapped = refuses _ op.Sub (number (pos 2)) (number (pos 1)) (is_value (pos 1)) refl refl

-- a value in the place of a rule
rule_swallowed : IsRefused (λ o a b. over (operation o a b) (Ok falsehood))
unfolding operation delivered quotient fits least greatest is_signed width converted reduce common common_promoted mixed higher rank promote
rule_swallowed = refuses _ op.Div (number (pos 1)) (number (pos 0)) (is_division_by_zero) refl refl

-- another rule in its place
other_rule : IsRefused (λ o a b. over (operation o a b) (Err rule.SourceTooLong))
unfolding operation delivered quotient fits least greatest is_signed width converted reduce common common_promoted mixed higher rank promote
other_rule = refuses _ op.Div (number (pos 1)) (number (pos 0)) (is_division_by_zero) refl refl

-- and another
yet_another_rule : IsRefused (λ o a b. over (operation o a b) (Err rule.Directive))
unfolding operation delivered quotient fits least greatest is_signed width converted reduce common common_promoted mixed higher rank promote
yet_another_rule = refuses _ op.Div (number (pos 1)) (number (pos 0)) (is_division_by_zero) refl refl

-- one unary operation for all
plus_always : IsRefusedUnary (λ o a. unary_operation un.Plus a)
unfolding unary_operation delivered fits least greatest is_signed width converted reduce promote
plus_always = refuses_unary _ un.Minus (number (pos 1)) (is_value (negsuc 0)) refl refl

-- the operand taken for false
operand_forgotten : IsRefusedUnary (λ o a. unary_operation o falsehood)
unfolding unary_operation delivered fits least greatest is_signed width converted reduce promote
operand_forgotten = refuses_unary _ un.Plus (number (pos 1)) (is_value (pos 1)) refl refl

-- a value in the place of a rule
overflow_swallowed : IsRefusedUnary (λ o a. over (unary_operation o a) (Ok falsehood))
unfolding unary_operation delivered fits least greatest is_signed width converted reduce promote
overflow_swallowed = refuses_unary _ un.Minus (number (negsuc 2147483647)) (is_overflow) refl refl

-- another rule in its place
other_rule_of_minus : IsRefusedUnary (λ o a. over (unary_operation o a) (Err rule.SourceTooLong))
unfolding unary_operation delivered fits least greatest is_signed width converted reduce promote
other_rule_of_minus = refuses_unary _ un.Minus (number (negsuc 2147483647)) (is_overflow) refl refl

-- and another
yet_another_rule_of_minus : IsRefusedUnary (λ o a. over (unary_operation o a) (Err rule.Directive))
unfolding unary_operation delivered fits least greatest is_signed width converted reduce promote
yet_another_rule_of_minus = refuses_unary _ un.Minus (number (negsuc 2147483647)) (is_overflow) refl refl
