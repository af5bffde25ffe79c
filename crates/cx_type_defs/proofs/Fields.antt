-- The search for the smallest bit-field, and powers of 2 that fit.
use Rattle.std.proofs.Common.{◌≡◌, ℕ, zero, suc, ◌+◌, ◌-◌, ◌^◌, ◌<◌, ◌≤◌, ◌⊎◌, inl, inr, Bool, true, false, refl, sym, ap, subst, ◌∙◌, arith, ℤ, pos, ◌≤ℤ◌, FitsSigned, lit<}
use Rattle.std.specs.Prelude.{if◌then◌else◌}
use Rattle.std.specs.Int.{w128}
use Rattle.std.proofs.lemmas.Int.{ints}
use Rattle.std.proofs.Math.Pow.{pow_mono}
use Rattle.cx_type_defs.specs.Enums.{first_from, holds, field_of_bits, field_bits, field_values}

pub power_fits : (n : ℕ) → n ≤ 65 → FitsSigned w128 (pos (2 ^ n))
power_fits n h =
    let p : 2 ^ n ≤ 2 ^ 65 = pow_mono h in
    let q : 2 ^ 65 < 2 ^ 127 = lit< tt in
    record { sfits = omega arith }

pub power_small : (n : ℕ) (r : ℤ) → n ≤ 65 → r ≡ pos (2 ^ n) → r ≤ℤ pos (2 ^ 65)
power_small n r h e =
    let p : 2 ^ n ≤ 2 ^ 65 = pow_mono h in
    omega (arith, ints)

abbrev pub field_holds : ℤ → ℤ → ℕ → Bool
field_holds low high bits = holds (field_of_bits low bits) low high

first-found : (test : ℕ → Bool) (n from : ℕ) (b : Bool) → test from ≡ b → b ≡ true → first_from test (suc n) from ≡ from
unfolding first_from
first-found test n from b e t = ap (λ (v : Bool). if v then from else first_from test n (from + 1)) (e ∙ t)

first-later : (test : ℕ → Bool) (n from : ℕ) (b : Bool) → test from ≡ b → b ≡ false → first_from test (suc n) from ≡ first_from test n (from + 1)
unfolding first_from
first-later test n from b e t = ap (λ (v : Bool). if v then from else first_from test n (from + 1)) (e ∙ t)

first-none : (test : ℕ → Bool) (from : ℕ) → first_from test 0 from ≡ from
unfolding first_from
first-none test from = refl

-- no bits below `from` are enough
pub record Sought (low high : ℤ) (from : ℕ) : Type 0 where
  pub goes_on : (n : ℕ) → n + from ≡ 65 → field_bits low high ≡ first_from (field_holds low high) n from

sought-first : (low high : ℤ) → Sought low high 1
sought-first low high = record { goes_on = λ n e. let m : 64 ≡ n = omega arith in ap (λ k. first_from (field_holds low high) k 1) m }

sought-more : (low high : ℤ) (from : ℕ) → Sought low high from → field_holds low high from ≡ false → Sought low high (from + 1)
sought-more low high from s t = record {
  goes_on = λ n e. let m : suc n + from ≡ 65 = omega arith in s.goes_on (suc n) m ∙ first-later (field_holds low high) n from _ refl t;
}

sought-found : (low high : ℤ) (from : ℕ) → Sought low high from → from < 65 → field_holds low high from ≡ true → field_of_bits low from ≡ field_values low high
sought-found low high from s h t =
    let m : suc (64 - from) + from ≡ 65 = omega arith in
    sym (ap (field_of_bits low) (s.goes_on (suc (64 - from)) m ∙ first-found (field_holds low high) (64 - from) from _ refl t))

sought-last : (low high : ℤ) → Sought low high 65 → field_of_bits low 65 ≡ field_values low high
sought-last low high s = sym (ap (field_of_bits low) (s.goes_on 0 refl ∙ first-none (field_holds low high) 65))

-- low' and high' are the numbers as the code reads them, v the values of so many bits
module _ (low high low' high' : ℤ) (el : low' ≡ low) (eh : high' ≡ high) where
  same_values : field_values low' high' ≡ field_values low high
  same_values = ap (λ (l : ℤ). field_values l high') el ∙ ap (λ (h : ℤ). field_values low h) eh

  test_is : (v : ℤ × ℤ) (from : ℕ) (b a : Bool) → v ≡ field_of_bits low' from → b ≡ holds v low' high' → b ≡ a → field_holds low' high' from ≡ a
  test_is v from b a ev eb ea = ap (λ (w : ℤ × ℤ). holds w low' high') (sym ev) ∙ sym eb ∙ ea

  pub values_found : (v : ℤ × ℤ) (from : ℕ) (b : Bool) → Sought low' high' from → from < 65 → v ≡ field_of_bits low' from → b ≡ holds v low' high' → b ≡ true → v ≡ field_values low high
  values_found v from b s h ev eb t = ev ∙ sought-found low' high' from s h (test_is v from b true ev eb t) ∙ same_values

  pub values_later : (v : ℤ × ℤ) (from : ℕ) (b : Bool) → Sought low' high' from → v ≡ field_of_bits low' from → b ≡ holds v low' high' → b ≡ false → Sought low' high' (from + 1)
  values_later v from b s ev eb t = sought-more low' high' from s (test_is v from b false ev eb t)

  pub values_last : (v : ℤ × ℤ) (from : ℕ) → Sought low' high' from → from ≡ 65 → v ≡ field_of_bits low' 65 → v ≡ field_values low high
  values_last v from s e ev = ev ∙ sought-last low' high' (subst (λ n. Sought low' high' n) e s) ∙ same_values

-- ---- the bit-field is the smallest
by_test : {P : Type 0} (b : Bool) → (b ≡ true → P) → (b ≡ false → P) → P
by_test true t f = t refl
by_test false t f = f refl

least_or_more : (from k : ℕ) → from ≤ k → (k ≡ from) ⊎ (from + 1 ≤ k)
least_or_more from k le = grind arith

true-no-false : (b : Bool) → b ≡ true → b ≡ false → ⊥
true-no-false b t f = cc

first-least : (test : ℕ → Bool) (n from k : ℕ) → from ≤ k → k < first_from test n from → test k ≡ false
first-least test zero from k le lt = let l : k < from = subst (λ m. k < m) (first-none test from) lt in absurd (omega arith)
first-least test (suc n) from k le lt =
    by_test (test from)
    (λ t. let l : k < from = subst (λ m. k < m) (first-found test n from _ refl t) lt in absurd (omega arith))
    (λ f.
    let l : k < first_from test n (from + 1) = subst (λ m. k < m) (first-later test n from _ refl f) lt in
    elim (least_or_more from k le) as (λ _. test k ≡ false) [ inl e ↦ ap test e ∙ f | inr h ↦ first-least test n (from + 1) k h l ])

pub first-above : (test : ℕ → Bool) (n from : ℕ) → from ≤ first_from test n from
first-above test zero from = let e = first-none test from in omega arith
first-above test (suc n) from =
    by_test (test from)
    (λ t. let e = first-found test n from _ refl t in omega arith)
    (λ f. let e = first-later test n from _ refl f in let l = first-above test n (from + 1) in omega arith)

first-passes : (test : ℕ → Bool) (n from k : ℕ) → from ≤ k → k < from + n → test k ≡ true → test (first_from test n from) ≡ true
first-passes test zero from k le lt t = absurd (omega arith)
first-passes test (suc n) from k le lt t =
    by_test (test from)
    (λ here. ap test (first-found test n from _ refl here) ∙ here)
    (λ f.
    let rest : from + 1 ≤ k → test (first_from test n (from + 1)) ≡ true = λ h. let l : k < from + 1 + n = omega arith in first-passes test n (from + 1) k h l t in
    ap test (first-later test n from _ refl f) ∙ elim (least_or_more from k le) as (λ _. test (first_from test n (from + 1)) ≡ true) [ inl e ↦ absurd (true-no-false _ (ap test (sym e) ∙ t) f) | inr h ↦ rest h ])

pub field_fits : (low high : ℤ) (bits : ℕ) → 1 ≤ bits → bits ≤ 64 → field_holds low high bits ≡ true → holds (field_values low high) low high ≡ true
field_fits low high bits some few t = first-passes (field_holds low high) 64 1 bits some (omega arith) t

pub field_least : (low high : ℤ) (bits : ℕ) → 1 ≤ bits → bits < field_bits low high → field_holds low high bits ≡ false
field_least low high bits some fewer = first-least (field_holds low high) 64 1 bits some fewer
