-- How the operations come from their parts, and that each result is of its type.
use Rattle.std.proofs.Common.{◌≡◌, ℕ, suc, ◌-◌, ◌/◌, ◌%◌, ◌^◌, Bool, true, false, refl, sym, ap, subst, ◌∙◌, arith, ℤ, pos, negsuc, neg_ℤ, ◌-ℤ◌, ◌*ℤ◌, ◌≤ℤ◌, unsigned_abs, Result, Ok, Err}
use Rattle.std.specs.Prelude.{IfOk, int_div, int_rem, int_le, ◌&&◌, if◌then◌else◌}
use Rattle.std.proofs.lemmas.Int.{ints, quot-rem}
use Rattle.std.proofs.Math.Nat.{div-le_self, mod-le}
use Rattle.cx_base.specs.declared.int_type.IntType.{IntType}
use Rattle.cx_base.specs.declared.rule.Rule.{Rule}
use Rattle.cx_base.specs.declared.rule.Rule.TheVariants as rule
use Rattle.cx_ints.specs.declared.int.Int.{Int}
use Rattle.cx_ints.specs.declared.operators.BinOp.{BinOp}
use Rattle.cx_ints.specs.declared.operators.BinOp.TheVariants as op
use Rattle.cx_ints.specs.declared.operators.UnOp.{UnOp}
use Rattle.cx_ints.specs.declared.operators.UnOp.TheVariants as un
use Rattle.cx_ints.specs.Ranges.{width, is_signed, least, greatest, Fits, fits}
use Rattle.cx_ints.specs.Conversions.{reduce, converted, promote, common}
use Rattle.cx_ints.specs.Bits.{bit, floor_div, of_bits}
use Rattle.cx_ints.specs.Operations.{IsOf, int, delivered, quotient, counted, on_ok, at_common, promoted, operation, unary_operation, result_type}
use Rattle.cx_ints.proofs.TypeLaws.{reduce_fits, converted_fits, truth_fits}
use Rattle.cx_ints.proofs.Exact.{quotient_fits_test, quotient_value}

-- ---- from the parts
pub at_common_is : (f : IntType → ℤ → ℤ → Result Int Rule) (a b : Int) (t : IntType) (x y : ℤ) (r : Result Int Rule) → t ≡ common a.ty b.ty → x ≡ converted (common a.ty b.ty) a.value → y ≡ converted (common a.ty b.ty) b.value → r ≡ f t x y → r ≡ at_common a b f
at_common_is f a b t x y r et ex ey e = e ∙ (λ i. f (et i) (ex i) (ey i))

pub shl_is : (a b a' b' : Int) (z : ℤ) (r : Result Int Rule) → a' ≡ int (promote a.ty) (promoted a) → b' ≡ int (promote b.ty) (promoted b) → z ≡ b'.value → r ≡ on_ok (counted z a'.ty) a'.ty (λ n. reduce a'.ty (a'.value *ℤ pos (2 ^ n))) → r ≡ operation op.Shl a b
unfolding operation
shl_is a b a' b' z r ea eb ez e =
    e ∙ ap (λ (v : ℤ). on_ok (counted v a'.ty) a'.ty (λ n. reduce a'.ty (a'.value *ℤ pos (2 ^ n)))) (ez ∙ ap (λ (i : Int). i.value) eb)
    ∙ ap (λ (i : Int). on_ok (counted (promoted b) i.ty) i.ty (λ n. reduce i.ty (i.value *ℤ pos (2 ^ n)))) ea

pub shr_is : (a b a' b' : Int) (z : ℤ) (r : Result Int Rule) → a' ≡ int (promote a.ty) (promoted a) → b' ≡ int (promote b.ty) (promoted b) → z ≡ b'.value → r ≡ on_ok (counted z a'.ty) a'.ty (λ n. floor_div a'.value (2 ^ n)) → r ≡ operation op.Shr a b
unfolding operation
shr_is a b a' b' z r ea eb ez e =
    e ∙ ap (λ (v : ℤ). on_ok (counted v a'.ty) a'.ty (λ n. floor_div a'.value (2 ^ n))) (ez ∙ ap (λ (i : Int). i.value) eb)
    ∙ ap (λ (i : Int). on_ok (counted (promoted b) i.ty) i.ty (λ n. floor_div i.value (2 ^ n))) ea

pub complement_of : (a a' r : Int) → a' ≡ int (promote a.ty) (promoted a) → r ≡ int a'.ty (of_bits a'.ty (λ k. 1 - bit a'.value k)) → Ok r ≡ unary_operation un.Complement a
unfolding unary_operation
complement_of a a' r ea e = ap (λ (v : Int). Ok v) (e ∙ ap (λ (i : Int). int i.ty (of_bits i.ty (λ k. 1 - bit i.value k))) ea)

-- ---- in range
pub both_true : (x y : Bool) → x && y ≡ true → (x ≡ true) × (y ≡ true)
both_true true true e = (refl, refl)
both_true true false e = absurd (cc)
both_true false y e = absurd (cc)

pub fits_fact : (t : IntType) (z : ℤ) → fits t z ≡ true → Fits t z
unfolding fits Fits
fits_fact t z e =
    let both = both_true (int_le (least t) z) (int_le z (greatest t)) e in
    let low = both.0 in
    let high = both.1 in
    (omega (arith, ints), omega (arith, ints))

least_low : (t : IntType) → least t ≤ℤ pos 0
unfolding least
least_low t = by (is_signed t)
  where
    by : (b : Bool) → (if b then neg_ℤ (pos (2 ^ (width t - 1))) else pos 0) ≤ℤ pos 0
    by true = omega (arith, ints)
    by false = omega (arith, ints)

greatest_high : (t : IntType) → pos 0 ≤ℤ greatest t
unfolding greatest
greatest_high t = by (is_signed t)
  where
    by : (b : Bool) → pos 0 ≤ℤ (if b then pos (2 ^ (width t - 1) - 1) else pos (2 ^ width t - 1))
    by true = omega (arith, ints)
    by false = omega (arith, ints)

-- a number between 0 and a value, or between a value and 0, is a value
up_to : (t : IntType) (x r : ℤ) → Fits t x → pos 0 ≤ℤ r → r ≤ℤ x → Fits t r
unfolding Fits
up_to t x r f from below =
    let high = f.1 in
    let low = least_low t in
    (omega (arith, ints), omega (arith, ints))

down_to : (t : IntType) (x r : ℤ) → Fits t x → r ≤ℤ pos 0 → x ≤ℤ r → Fits t r
unfolding Fits
down_to t x r f below from =
    let low = f.0 in
    let high = greatest_high t in
    (omega (arith, ints), omega (arith, ints))

floor_fits : (t : IntType) (x : ℤ) (d : ℕ) → Fits t x → Fits t (floor_div x d)
floor_fits t (pos a) d f = let l = div-le_self a d in up_to t (pos a) (pos (a / d)) f (omega (arith, ints)) (omega (arith, ints))
floor_fits t (negsuc a) d f = let l = div-le_self a d in down_to t (negsuc a) (negsuc (a / d)) f (omega (arith, ints)) (omega (arith, ints))

rem_fits : (t : IntType) (x y : ℤ) → Fits t x → Fits t (int_rem x y)
rem_fits t (pos a) y f = let l = mod-le a (unsigned_abs y) in up_to t (pos a) (pos (a % unsigned_abs y)) f (omega (arith, ints)) (omega (arith, ints))
rem_fits t (negsuc a) y f = let l = mod-le (suc a) (unsigned_abs y) in down_to t (negsuc a) (neg_ℤ (pos (suc a % unsigned_abs y))) f (omega (arith, ints)) (omega (arith, ints))

difference_fits : (t : IntType) (x y : ℤ) → Fits t x → Fits t (x -ℤ int_div x y *ℤ y)
difference_fits t x y f =
    let all = quot-rem x y in
    let e : int_rem x y ≡ x -ℤ int_div x y *ℤ y = omega (arith, ints) in
    subst (λ (r : ℤ). Fits t r) e (rem_fits t x y f)

-- ---- of the type
abbrev pub OkOf : IntType → Result Int Rule → Type 0
OkOf t r = IfOk r (λ a. IsOf t a)

delivered_of : (t : IntType) (z : ℤ) → OkOf t (delivered t z)
unfolding delivered
delivered_of t z = by (is_signed t) (fits t z) refl
  where
    by : (b c : Bool) → fits t z ≡ c → OkOf t (if b then (if c then Ok (int t z) else Err rule.Overflow) else Ok (int t (reduce t z)))
    by true true e = (refl, fits_fact t z e)
    by true false e = tt
    by false c e = (refl, reduce_fits t z)

on_ok_of : {X : Type 0} (r : Result X Rule) (t : IntType) (f : X → ℤ) → ((x : X) → Ok x ≡ r → Fits t (f x)) → OkOf t (on_ok r t f)
on_ok_of (Ok x) t f h = (refl, h x refl)
on_ok_of (Err e) t f h = tt

bits_fit : (t : IntType) (f : ℕ → ℕ) → Fits t (of_bits t f)
unfolding of_bits
bits_fit t f = reduce_fits t _

remainder_fits : (t : IntType) (x y q : ℤ) → Fits t x → Ok q ≡ quotient t x y → Fits t (x -ℤ q *ℤ y)
remainder_fits t x y q f e =
    let is = quotient_value t x y q e in
    subst (λ (p : ℤ). Fits t (x -ℤ p *ℤ y)) (sym is) (difference_fits t x y f)

pub operation_of : (o : BinOp) (a b : Int) → OkOf (result_type o a.ty b.ty) (operation o a b)
unfolding operation result_type
operation_of op.Add a b = delivered_of (common a.ty b.ty) _
operation_of op.Sub a b = delivered_of (common a.ty b.ty) _
operation_of op.Mul a b = delivered_of (common a.ty b.ty) _
operation_of op.Div a b =
    let t = common a.ty b.ty in
    let x = converted t a.value in
    let y = converted t b.value in
    on_ok_of (quotient t x y) t (λ q. q) (λ q e. fits_fact t q (quotient_fits_test t x y q e))
operation_of op.Rem a b =
    let t = common a.ty b.ty in
    let x = converted t a.value in
    let y = converted t b.value in
    on_ok_of (quotient t x y) t (λ q. x -ℤ q *ℤ y) (λ q e. remainder_fits t x y q (converted_fits t a.value) e)
operation_of op.Shl a b =
    let t = promote a.ty in
    on_ok_of (counted (promoted b) t) t (λ n. reduce t (promoted a *ℤ pos (2 ^ n))) (λ n e. reduce_fits t _)
operation_of op.Shr a b =
    let t = promote a.ty in
    on_ok_of (counted (promoted b) t) t (λ n. floor_div (promoted a) (2 ^ n)) (λ n e. floor_fits t (promoted a) (2 ^ n) (converted_fits t a.value))
operation_of op.And a b = (refl, bits_fit (common a.ty b.ty) _)
operation_of op.Or a b = (refl, bits_fit (common a.ty b.ty) _)
operation_of op.Xor a b = (refl, bits_fit (common a.ty b.ty) _)
operation_of op.Eq a b = (refl, truth_fits _)
operation_of op.Ne a b = (refl, truth_fits _)
operation_of op.Lt a b = (refl, truth_fits _)
operation_of op.Le a b = (refl, truth_fits _)
operation_of op.Gt a b = (refl, truth_fits _)
operation_of op.Ge a b = (refl, truth_fits _)

pub unary_of : (o : UnOp) (a : Int) → OkOf (promote a.ty) (unary_operation o a)
unfolding unary_operation
unary_of un.Plus a = (refl, converted_fits (promote a.ty) a.value)
unary_of un.Minus a = delivered_of (promote a.ty) _
unary_of un.Complement a = (refl, bits_fit (promote a.ty) _)
