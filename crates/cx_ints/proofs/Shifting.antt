-- What the shifts compute is what their definitions say.
use Rattle.std.proofs.Common.{◌≡◌, ℕ, ◌^◌, ◌<◌, ◌≤◌, Bool, true, false, refl, sym, ap, subst, ◌∙◌, arith, ℤ, pos, negsuc, ◌*ℤ◌, ◌≤ℤ◌, ◌<ℤ◌, unsigned_abs, FitsSigned, to_z, of_z, Ok, Err, lit<}
use Rattle.std.specs.Prelude.{nat_lt, if◌then◌else◌}
use Rattle.std.specs.Int.{w128}
use Rattle.std.proofs.lemmas.Int.{ints, to_z-of_z, fits_signed_mul}
use Rattle.std.proofs.lemmas.Bool.{lt-ltb, le-ltb}
use Rattle.std.proofs.Math.Pow.{pow_mono}
use Rattle.cx_base.specs.declared.int_type.IntType.{IntType}
use Rattle.cx_base.specs.declared.rule.Rule.TheVariants as rule
use Rattle.cx_ints.specs.Ranges.{width, InWord}
use Rattle.cx_ints.specs.Operations.{counted}

-- ---- the count
at_test : (n : ℕ) (t : IntType) (b : Bool) → nat_lt n (width t) ≡ b → counted (pos n) t ≡ (if b then Ok n else Err rule.ShiftCount)
unfolding counted
at_test n t b e = ap (λ (v : Bool). if v then Ok n else Err rule.ShiftCount) e

pub counted_ok : (z : ℤ) (t : IntType) (n : ℕ) → z ≡ pos n → n < width t → Ok n ≡ counted z t
counted_ok z t n e l = sym (ap (λ (v : ℤ). counted v t) e ∙ at_test n t true (lt-ltb n (width t) l))

pub counted_negative : (z : ℤ) (t : IntType) → z <ℤ pos 0 → Err rule.ShiftCount ≡ counted z t
unfolding counted
counted_negative (pos n) t l = absurd (omega (arith, ints))
counted_negative (negsuc n) t l = refl

pub counted_past : (z : ℤ) (t : IntType) → pos (width t) ≤ℤ z → Err rule.ShiftCount ≡ counted z t
counted_past (pos n) t l = let h : width t ≤ n = omega (arith, ints) in sym (at_test n t false (le-ltb n (width t) h))
counted_past (negsuc n) t l = absurd (omega (arith, ints))

-- ---- the product with 2 ^ n
scale_fits : (x : ℤ) (n : ℕ) → InWord x → n < 64 → FitsSigned w128 (x *ℤ pos (2 ^ n))
scale_fits x n w small =
    let l = w.0 in
    let h = w.1 in
    let size : unsigned_abs x ≤ 18446744073709551615 = omega (arith, ints) in
    let within : n ≤ 63 = omega arith in
    let power : 2 ^ n ≤ 2 ^ 63 = pow_mono within in
    fits_signed_mul w128 x (pos (2 ^ n)) 18446744073709551615 (2 ^ 63) size power (lit< tt)

-- x', p' are the factors as the code reads them
module _ (x p x' p' : ℤ) (n : ℕ) (w : InWord x) (small : n < 64) (ep : p ≡ pos (2 ^ n)) (ex' : x' ≡ x) (ep' : p' ≡ p) where
  product_is : x' *ℤ p' ≡ x *ℤ pos (2 ^ n)
  product_is = ap (λ (v : ℤ). v *ℤ p') ex' ∙ ap (λ (v : ℤ). x *ℤ v) (ep' ∙ ep)

  pub scaled_fits : FitsSigned w128 (x' *ℤ p')
  scaled_fits = subst (λ (v : ℤ). FitsSigned w128 v) (sym product_is) (scale_fits x n w small)

  pub scaled_is : to_z w128 (of_z w128 (x' *ℤ p')) ≡ x *ℤ pos (2 ^ n)
  scaled_is = to_z-of_z w128 (x' *ℤ p') scaled_fits ∙ product_is
