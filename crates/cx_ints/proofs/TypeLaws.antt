-- Laws of the ranges and conversions.
use Rattle.std.proofs.Common.{◌≡◌, ◌≢◌, ℕ, zero, suc, ◌-◌, ◌^◌, Bool, true, false, not, refl, sym, ap, subst, ◌∙◌, arith, ℤ, pos, negsuc, ◌+ℤ◌, ◌-ℤ◌, ◌≤ℤ◌, ◌<ℤ◌}
use Rattle.std.specs.Int.{int_rem_euclid}
use Rattle.std.proofs.lemmas.Int.{ints}
use Rattle.std.proofs.Math.Pow.{pow_pos}
use Rattle.cx_base.specs.declared.int_type.IntType.{IntType}
use Rattle.cx_base.specs.declared.int_type.IntType.TheVariants as type
use Rattle.cx_ints.specs.Ranges.{width, is_signed, least, greatest, Fits}
use Rattle.cx_ints.specs.Conversions.{reduce, converted, truth, is_zero}
use Rattle.cx_ints.proofs.Residues.{rest, rest_from, rest_below, rest_itself, rest_minus}

pub by_bool : {P : Type 0} (t : IntType) → (t ≡ type.Bool → P) → (t ≢ type.Bool → P) → P
by_bool type.Bool f g = f refl
by_bool type.Char f g = g (λ e. cc)
by_bool type.SChar f g = g (λ e. cc)
by_bool type.UChar f g = g (λ e. cc)
by_bool type.Short f g = g (λ e. cc)
by_bool type.UShort f g = g (λ e. cc)
by_bool type.Int f g = g (λ e. cc)
by_bool type.UInt f g = g (λ e. cc)
by_bool type.Long f g = g (λ e. cc)
by_bool type.ULong f g = g (λ e. cc)
by_bool type.LongLong f g = g (λ e. cc)
by_bool type.ULongLong f g = g (λ e. cc)

pub converted_other : (t : IntType) (z : ℤ) → t ≢ type.Bool → converted t z ≡ reduce t z
unfolding converted
converted_other type.Bool z h = absurd (h refl)
converted_other type.Char z h = refl
converted_other type.SChar z h = refl
converted_other type.UChar z h = refl
converted_other type.Short z h = refl
converted_other type.UShort z h = refl
converted_other type.Int z h = refl
converted_other type.UInt z h = refl
converted_other type.Long z h = refl
converted_other type.ULong z h = refl
converted_other type.LongLong z h = refl
converted_other type.ULongLong z h = refl

-- a type of N bits has 2 ^ N values
pub greatest_is : (t : IntType) → greatest t ≡ least t +ℤ pos (2 ^ width t - 1)
unfolding greatest least is_signed width
greatest_is type.Bool = refl
greatest_is type.Char = refl
greatest_is type.SChar = refl
greatest_is type.UChar = refl
greatest_is type.Short = refl
greatest_is type.UShort = refl
greatest_is type.Int = refl
greatest_is type.UInt = refl
greatest_is type.Long = refl
greatest_is type.ULong = refl
greatest_is type.LongLong = refl
greatest_is type.ULongLong = refl

pub reduce_fits : (t : IntType) (z : ℤ) → Fits t (reduce t z)
unfolding Fits reduce
reduce_fits t z =
    let some = pow_pos (width t) in
    let from = rest_from (z -ℤ least t) (2 ^ width t) some in
    let below = rest_below (z -ℤ least t) (2 ^ width t) some in
    let top = greatest_is t in
    (omega (arith, ints), omega (arith, ints))

pub reduce_same : (t : IntType) (z : ℤ) → Fits t z → reduce t z ≡ z
unfolding Fits reduce
reduce_same t z fit =
    let some = pow_pos (width t) in
    let top = greatest_is t in
    let low = fit.0 in
    let high = fit.1 in
    let from : pos 0 ≤ℤ (z -ℤ least t) = omega (arith, ints) in
    let below : (z -ℤ least t) <ℤ pos (2 ^ width t) = omega (arith, ints) in
    let whole = rest_itself (z -ℤ least t) (2 ^ width t) from below in
    ap (λ d. least t +ℤ d) whole ∙ omega (arith, ints)

-- to reduce what is left modulo 2 ^ N is to reduce the number
pub reduce_rest : (t : IntType) (z : ℤ) → reduce t (rest z (2 ^ width t)) ≡ reduce t z
unfolding reduce
reduce_rest t z = ap (λ d. least t +ℤ d) (rest_minus z (least t) (2 ^ width t) (pow_pos (width t)))

pub truth_fits : (b : Bool) → Fits type.Bool (truth b)
unfolding Fits least greatest is_signed width
truth_fits true = (omega (arith, ints), omega (arith, ints))
truth_fits false = (omega (arith, ints), omega (arith, ints))

truth_same : (z : ℤ) → pos 0 ≤ℤ z → z ≤ℤ pos 1 → truth (not (is_zero z)) ≡ z
truth_same (pos zero) l h = refl
truth_same (pos (suc n)) l h = let e : zero ≡ n = omega (arith, ints) in ap (λ (k : ℕ). pos (suc k)) e
truth_same (negsuc n) l h = absurd (omega (arith, ints))

bool_same : (z : ℤ) → Fits type.Bool z → truth (not (is_zero z)) ≡ z
unfolding Fits least greatest is_signed width
bool_same z fit = truth_same z fit.0 fit.1

pub is_zero_other : (z : ℤ) → z ≢ pos 0 → is_zero z ≡ false
is_zero_other (pos zero) h = absurd (h refl)
is_zero_other (pos (suc n)) h = refl
is_zero_other (negsuc n) h = refl

pub converted_bool : (t : IntType) (z z' r : ℤ) → t ≡ type.Bool → z' ≡ z → r ≡ truth (not (is_zero z')) → r ≡ converted t z
unfolding converted
converted_bool t z z' r et ez e = e ∙ ap (λ (x : ℤ). truth (not (is_zero x))) ez ∙ ap (λ (u : IntType). converted u z) (sym et)

bool_fits : (z : ℤ) → Fits type.Bool (converted type.Bool z)
unfolding converted
bool_fits z = truth_fits (not (is_zero z))

bool_converted_same : (z : ℤ) → Fits type.Bool z → converted type.Bool z ≡ z
unfolding converted
bool_converted_same z fit = bool_same z fit

pub converted_fits : (t : IntType) (z : ℤ) → Fits t (converted t z)
converted_fits t z =
    by_bool t (λ e. subst (λ (u : IntType). Fits u (converted u z)) (sym e) (bool_fits z))
    (λ n. subst (λ (v : ℤ). Fits t v) (sym (converted_other t z n)) (reduce_fits t z))

pub converted_same : (t : IntType) (z : ℤ) → Fits t z → converted t z ≡ z
converted_same t z fit =
    by_bool t (λ e. subst (λ (u : IntType). Fits u z → converted u z ≡ z) (sym e) (bool_converted_same z) fit)
    (λ n. converted_other t z n ∙ reduce_same t z fit)

-- what `reduce` computes: the remainder of the number, moved up by the least value, and the remainder of that moved back
pub reduced : (t : IntType) (z low size r s z' size' d : ℤ) → low ≡ least t → size ≡ pos (2 ^ width t) → z' ≡ z → size' ≡ size → r ≡ int_rem_euclid z' size' → d ≡ r -ℤ low → s ≡ int_rem_euclid d size' → s +ℤ low ≡ reduce t z
unfolding reduce
reduced t z low size r s z' size' d el es ez es' er ed e =
    let size_is : size' ≡ pos (2 ^ width t) = es' ∙ es in
    let r_is : r ≡ rest z (2 ^ width t) = er ∙ ap (λ (x : ℤ). int_rem_euclid x size') ez ∙ ap (int_rem_euclid z) size_is in
    let d_is : d ≡ rest z (2 ^ width t) -ℤ least t = ed ∙ ap (λ (x : ℤ). x -ℤ low) r_is ∙ ap (λ (x : ℤ). rest z (2 ^ width t) -ℤ x) el in
    let s_is : s ≡ rest (z -ℤ least t) (2 ^ width t) = e ∙ ap (λ (x : ℤ). int_rem_euclid x size') d_is ∙ ap (int_rem_euclid (rest z (2 ^ width t) -ℤ least t)) size_is ∙ rest_minus z (least t) (2 ^ width t) (pow_pos (width t)) in
    let sum : s +ℤ low ≡ least t +ℤ rest (z -ℤ least t) (2 ^ width t) = omega (arith, ints) in sum
