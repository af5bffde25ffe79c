-- What the arithmetic computes is what its definitions say.
use Rattle.std.proofs.Common.{◌≡◌, ◌≢◌, ℕ, zero, suc, ◌+◌, ◌-◌, ◌*◌, ◌%◌, ◌^◌, ◌<◌, ◌≤◌, Bool, true, false, refl, sym, ap, subst, ◌∙◌, arith, ℤ, pos, negsuc, ◌+ℤ◌, ◌-ℤ◌, ◌*ℤ◌, ◌≤ℤ◌, unsigned_abs, FitsSigned, to_z, of_z, Result, Ok, Err, lit<}
use Rattle.std.specs.Prelude.{neg_ℤ, int_div, int_rem, if◌then◌else◌}
use Rattle.std.specs.Int.{w128, int_rem_euclid}
use Rattle.std.proofs.lemmas.Int.{ints, to_z-of_z, fits_signed_mul, fits_signed_from_abs, quot_is, rem_is, quot-rem}
use Rattle.std.proofs.Math.Nat.{div-le_self}
use Rattle.cx_base.specs.declared.int_type.IntType.{IntType}
use Rattle.cx_base.specs.declared.int_type.IntType.TheVariants as type
use Rattle.cx_base.specs.declared.rule.Rule.{Rule}
use Rattle.cx_base.specs.declared.rule.Rule.TheVariants as rule
use Rattle.cx_ints.specs.declared.int.Int.{Int}
use Rattle.cx_ints.specs.Ranges.{width, is_signed, least, greatest, Fits, fits, InWord}
use Rattle.cx_ints.specs.Conversions.{reduce, is_zero}
use Rattle.cx_ints.specs.Operations.{int, delivered, quotient, on_ok}
use Rattle.cx_ints.proofs.TypeLaws.{is_zero_other}

-- ---- how large values are
pub fits_word : (t : IntType) (z : ℤ) → Fits t z → InWord z
unfolding Fits least greatest is_signed width
fits_word type.Bool z f = let l = f.0 in let h = f.1 in (omega (arith, ints), omega (arith, ints))
fits_word type.Char z f = let l = f.0 in let h = f.1 in (omega (arith, ints), omega (arith, ints))
fits_word type.SChar z f = let l = f.0 in let h = f.1 in (omega (arith, ints), omega (arith, ints))
fits_word type.UChar z f = let l = f.0 in let h = f.1 in (omega (arith, ints), omega (arith, ints))
fits_word type.Short z f = let l = f.0 in let h = f.1 in (omega (arith, ints), omega (arith, ints))
fits_word type.UShort z f = let l = f.0 in let h = f.1 in (omega (arith, ints), omega (arith, ints))
fits_word type.Int z f = let l = f.0 in let h = f.1 in (omega (arith, ints), omega (arith, ints))
fits_word type.UInt z f = let l = f.0 in let h = f.1 in (omega (arith, ints), omega (arith, ints))
fits_word type.Long z f = let l = f.0 in let h = f.1 in (omega (arith, ints), omega (arith, ints))
fits_word type.ULong z f = let l = f.0 in let h = f.1 in (omega (arith, ints), omega (arith, ints))
fits_word type.LongLong z f = let l = f.0 in let h = f.1 in (omega (arith, ints), omega (arith, ints))
fits_word type.ULongLong z f = let l = f.0 in let h = f.1 in (omega (arith, ints), omega (arith, ints))

signed_greatest : (t : IntType) → is_signed t ≡ true → greatest t ≤ℤ pos 9223372036854775807
unfolding greatest is_signed width
signed_greatest type.Bool s = cc
signed_greatest type.Char s = omega (arith, ints)
signed_greatest type.SChar s = omega (arith, ints)
signed_greatest type.UChar s = cc
signed_greatest type.Short s = omega (arith, ints)
signed_greatest type.UShort s = cc
signed_greatest type.Int s = omega (arith, ints)
signed_greatest type.UInt s = cc
signed_greatest type.Long s = omega (arith, ints)
signed_greatest type.ULong s = cc
signed_greatest type.LongLong s = omega (arith, ints)
signed_greatest type.ULongLong s = cc

pub unsigned_least : (t : IntType) → is_signed t ≡ false → least t ≡ pos 0
unfolding least
unsigned_least t s = ap (λ (b : Bool). if b then neg_ℤ (pos (2 ^ (width t - 1))) else pos 0) s

pub signed_bound : (t : IntType) (z : ℤ) → is_signed t ≡ true → Fits t z → unsigned_abs z ≤ 9223372036854775808
unfolding Fits
signed_bound t z s f =
    let word = fits_word t z f in
    let low = word.0 in
    let high = f.1 in
    let top = signed_greatest t s in
    omega (arith, ints)

pub unsigned_bound : (t : IntType) (z : ℤ) → is_signed t ≡ false → Fits t z → (pos 0 ≤ℤ z) × (z ≤ℤ pos 18446744073709551615)
unfolding Fits
unsigned_bound t z s f =
    let word = fits_word t z f in
    let low : least t ≤ℤ z = f.0 in
    let bottom = unsigned_least t s in
    (omega (arith, ints), word.1)

-- ---- products
pub product_fits : (x y : ℤ) → unsigned_abs x ≤ 9223372036854775808 → unsigned_abs y ≤ 9223372036854775808 → FitsSigned w128 (x *ℤ y)
product_fits x y l r = fits_signed_mul w128 x y 9223372036854775808 9223372036854775808 l r (lit< tt)

pub product_is : (x y : ℤ) → FitsSigned w128 x → FitsSigned w128 y → unsigned_abs x ≤ 9223372036854775808 → unsigned_abs y ≤ 9223372036854775808 → to_z w128 (of_z w128 (to_z w128 (of_z w128 x) *ℤ to_z w128 (of_z w128 y))) ≡ x *ℤ y
product_is x y fx fy l r =
    let ex = to_z-of_z w128 x fx in
    let ey = to_z-of_z w128 y fy in
    ap (λ (a : ℤ). to_z w128 (of_z w128 (a *ℤ to_z w128 (of_z w128 y)))) ex
    ∙ ap (λ (b : ℤ). to_z w128 (of_z w128 (x *ℤ b))) ey
    ∙ to_z-of_z w128 (x *ℤ y) (product_fits x y l r)

unsigned_reduced : (t : IntType) (n : ℕ) → is_signed t ≡ false → reduce t (pos n) ≡ pos (n % 2 ^ width t)
unfolding reduce
unsigned_reduced t n s = ap (λ (l : ℤ). l +ℤ int_rem_euclid (pos n -ℤ l) (pos (2 ^ width t))) (unsigned_least t s)
    ∙ (let e : n + 0 ≡ n = omega arith in ap (λ (k : ℕ). pos 0 +ℤ pos (k % 2 ^ width t)) e)
    ∙ omega (arith, ints)

pub unsigned_delivered : (t : IntType) (z : ℤ) → is_signed t ≡ false → Ok (int t (reduce t z)) ≡ delivered t z
unfolding delivered
unsigned_delivered t z s = sym (ap (λ (b : Bool). if b then (if fits t z then Ok (int t z) else Err rule.Overflow) else Ok (int t (reduce t z))) s)

pub unsigned_product_is : (t : IntType) (x y : ℤ) (a b : ℕ) (r : ℤ) → is_signed t ≡ false → x ≡ pos a → y ≡ pos b → r ≡ pos (a * b % 2 ^ width t) → ◌≡◌ {A = Result Int Rule} (Ok (int t r)) (delivered t (x *ℤ y))
unsigned_product_is t x y a b r s ex ey e =
    ap (λ (v : ℤ). Ok (int t v)) (e ∙ sym (unsigned_reduced t (a * b) s))
    ∙ unsigned_delivered t (pos (a * b)) s
    ∙ ap (λ (v : ℤ). delivered t (v *ℤ pos b)) (sym ex)
    ∙ ap (λ (v : ℤ). delivered t (x *ℤ v)) (sym ey)

-- ---- quotients
abs_div : (x y : ℤ) → unsigned_abs (int_div x y) ≤ unsigned_abs x
abs_div (pos a) (pos b) = div-le_self a b
abs_div (pos a) (negsuc b) = let h = div-le_self a (suc b) in omega (arith, ints)
abs_div (negsuc a) (pos b) = let h = div-le_self (suc a) b in omega (arith, ints)
abs_div (negsuc a) (negsuc b) = div-le_self (suc a) (suc b)

word_size : (x : ℤ) → InWord x → unsigned_abs x ≤ 18446744073709551615
word_size x w = let l = w.0 in let h = w.1 in omega (arith, ints)

pub word_fits : (x : ℤ) → InWord x → FitsSigned w128 x
word_fits x w = let l = w.0 in let h = w.1 in omega (arith, ints)

pub div_fits : (x y : ℤ) → InWord x → FitsSigned w128 (int_div x y)
div_fits x y w =
    let smaller = abs_div x y in
    let size = word_size x w in
    let huge : 18446744073709551615 < 2 ^ 127 = lit< tt in
    fits_signed_from_abs w128 (int_div x y) (omega arith)

-- the code tests the bits of a divisor
pub zero_bits : (y : ℤ) → InWord y → of_z w128 y ≡ 0 → y ≡ pos 0
zero_bits (pos n) w e = ap pos e
zero_bits (negsuc n) w e = let l = w.0 in absurd (omega (arith, ints))

pub not_zero : (y : ℤ) → (of_z w128 y ≡ 0 → ⊥) → y ≢ pos 0
not_zero y h e = h (ap (of_z w128) e)

pub quotient_by_zero : (t : IntType) (x y : ℤ) → y ≡ pos 0 → Err rule.DivideByZero ≡ quotient t x y
unfolding quotient
quotient_by_zero t x y e = sym (ap (quotient t x) e)

at_nonzero : (t : IntType) (x y : ℤ) (b c : Bool) → is_zero y ≡ b → fits t (int_div x y) ≡ c → quotient t x y ≡ (if b then Err rule.DivideByZero else (if c then Ok (int_div x y) else Err rule.Quotient))
unfolding quotient
at_nonzero t x y b c eb ec =
    ap (λ (v : Bool). if v then Err rule.DivideByZero else (if fits t (int_div x y) then Ok (int_div x y) else Err rule.Quotient)) eb
    ∙ ap (λ (v : Bool). if b then Err rule.DivideByZero else (if v then Ok (int_div x y) else Err rule.Quotient)) ec

-- q, q' are what the code computes and tests
pub quotient_ok : (t : IntType) (x y q q' : ℤ) (b : Bool) → y ≢ pos 0 → q ≡ int_div x y → q' ≡ int_div x y → b ≡ fits t q' → b ≡ true → Ok q ≡ quotient t x y
quotient_ok t x y q q' b nz eq eq' eb et =
    ap (λ (v : ℤ). Ok v) eq ∙ sym (at_nonzero t x y false true (is_zero_other y nz) (sym (eb ∙ ap (fits t) eq') ∙ et))

pub quotient_err : (t : IntType) (x y q' : ℤ) (b : Bool) → y ≢ pos 0 → q' ≡ int_div x y → b ≡ fits t q' → b ≡ false → Err rule.Quotient ≡ quotient t x y
quotient_err t x y q' b nz eq' eb et =
    sym (at_nonzero t x y false false (is_zero_other y nz) (sym (eb ∙ ap (fits t) eq') ∙ et))

-- where there is a quotient the divisor isn't 0
zero_gives_none : (t : IntType) (x y q : ℤ) → Ok q ≡ quotient t x y → y ≢ pos 0
zero_gives_none t x y q e z = let none = quotient_by_zero t x y z in cc

module _ (t : IntType) (x y q : ℤ) where
  tested : (c : Bool) → y ≢ pos 0 → fits t (int_div x y) ≡ c → Ok q ≡ quotient t x y → (q ≡ int_div x y) × (fits t q ≡ true)
  tested true nz ec e = let is = e ∙ at_nonzero t x y false true (is_zero_other y nz) ec in let same : q ≡ int_div x y = cc in (same, ap (fits t) same ∙ ec)
  tested false nz ec e = let is = e ∙ at_nonzero t x y false false (is_zero_other y nz) ec in absurd (cc)

  pub quotient_value : Ok q ≡ quotient t x y → q ≡ int_div x y
  quotient_value e = (tested (fits t (int_div x y)) (zero_gives_none t x y q e) refl e).0

  pub quotient_fits_test : Ok q ≡ quotient t x y → fits t q ≡ true
  quotient_fits_test e = (tested (fits t (int_div x y)) (zero_gives_none t x y q e) refl e).1

nonzero_bits : (y : ℤ) → y ≢ pos 0 → FitsSigned w128 y → 0 < of_z w128 y
nonzero_bits (pos zero) nz f = absurd (nz refl)
nonzero_bits (pos (suc n)) nz f = omega arith
nonzero_bits (negsuc n) nz f = let small = f.sfits in omega arith

pub can_divide : (t : IntType) (x y q x' y' : ℤ) → InWord x → InWord y → Ok q ≡ quotient t x y → x' ≡ x → y' ≡ y → (0 < of_z w128 y) × FitsSigned w128 (int_div x' y')
can_divide t x y q x' y' wx wy e ex ey = (
  nonzero_bits y (zero_gives_none t x y q e) (word_fits y wy),
  subst (λ (d : ℤ). FitsSigned w128 (int_div x' d)) (sym ey) (subst (λ (n : ℤ). FitsSigned w128 (int_div n y)) (sym ex) (div_fits x y wx)),
)

pub quot_value : (x y : ℤ) → InWord x → InWord y → to_z w128 (of_z w128 (int_div (to_z w128 (of_z w128 x)) (to_z w128 (of_z w128 y)))) ≡ int_div x y
quot_value x y wx wy = quot_is w128 x y (word_fits x wx) (word_fits y wy) (div_fits x y wx)

pub remainder_ok : (t : IntType) (x y q r : ℤ) → Ok q ≡ quotient t x y → r ≡ int_rem x y → Ok (int t r) ≡ on_ok (quotient t x y) t (λ p. x -ℤ p *ℤ y)
remainder_ok t x y q r e er =
    let is = quotient_value t x y q e in
    let all = quot-rem x y in
    let difference : x -ℤ int_div x y *ℤ y ≡ int_rem x y = omega (arith, ints) in
    ap (λ (v : ℤ). Ok (int t v)) (er ∙ sym difference ∙ ap (λ (p : ℤ). x -ℤ p *ℤ y) (sym is))
    ∙ ap (λ (v : Result ℤ Rule). on_ok v t (λ p. x -ℤ p *ℤ y)) e

pub rem_value : (x y : ℤ) → InWord x → InWord y → to_z w128 (of_z w128 (int_rem (to_z w128 (of_z w128 x)) (to_z w128 (of_z w128 y)))) ≡ int_rem x y
rem_value x y wx wy = rem_is w128 x y (word_fits x wx) (word_fits y wy)
