-- The bits of a whole number modulo 2 ^ n, and the operations on them.
use Rattle.std.proofs.Common.{◌≡◌, ℕ, zero, suc, ◌+◌, ◌-◌, ◌*◌, ◌/◌, ◌%◌, ◌^◌, ◌<◌, ◌≤◌, min, max, refl, sym, ap, subst, ◌∙◌, arith, ℤ, pos, negsuc, lit<, ⊎_elim}
use Rattle.std.specs.Prelude.{bit_and, bit_or, bit_xor}
use Rattle.std.specs.Int.{bit_at, int_rem_euclid}
use Rattle.std.specs.Int.Bits.{and_lt, or_lt, xor_lt}
use Rattle.std.proofs.lemmas.Nat.Bits.{bit_at_lowest, bit_at_cat_low, bit_at_cat_high, bit_at-lt, same_from_bits_below, bit_at_and, bit_at_or, bit_at_xor}
use Rattle.std.proofs.lemmas.Bool.{cases_lt}
use Rattle.std.proofs.Math.Nat.{div-add-mod', mod-lt, mod-eq_of_lt, pow-suc}
use Rattle.std.proofs.Math.Pow.{pow_pos}
use Rattle.cx_base.specs.declared.int_type.IntType.{IntType}
use Rattle.cx_ints.specs.Ranges.{width}
use Rattle.cx_ints.specs.Conversions.{reduce}
use Rattle.cx_ints.specs.Bits.{bit, with_bits, of_bits}
use Rattle.cx_ints.specs.Operations.{int, differ}
use Rattle.cx_ints.proofs.Residues.{rest}

abbrev pub AreBits : (ℕ → ℕ) → Type 0
AreBits f = (k : ℕ) → f k < 2

next_below : (b m a : ℕ) → b < 2 → a < m → b * m + a < m * 2
next_below zero m a l h = omega arith
next_below (suc zero) m a l h = omega arith
next_below (suc (suc b)) m a l h = absurd (omega arith)

pub with_bits_below : (n : ℕ) (f : ℕ → ℕ) → AreBits f → with_bits n f < 2 ^ n
unfolding with_bits
with_bits_below zero f bits = lit< tt
with_bits_below (suc n) f bits =
    subst (λ (m : ℕ). f n * 2 ^ n + with_bits n f < m) (sym (pow-suc 2 n)) (next_below (f n) (2 ^ n) (with_bits n f) (bits n) (with_bits_below n f bits))

top_bit : (n : ℕ) (f : ℕ → ℕ) → AreBits f → bit_at (f n * 2 ^ n + with_bits n f) n ≡ f n
top_bit n f bits =
    let none : n - n ≡ 0 = omega arith in
    let itself : n ≤ n = omega arith in
    bit_at_cat_high (f n) n (with_bits n f) n (with_bits_below n f bits) itself
    ∙ ap (bit_at (f n)) none ∙ bit_at_lowest (f n) ∙ mod-eq_of_lt (bits n)

pub bit_of_with_bits : (n : ℕ) (f : ℕ → ℕ) (k : ℕ) → AreBits f → k < n → bit_at (with_bits n f) k ≡ f k
unfolding with_bits
bit_of_with_bits zero f k bits l = absurd (omega arith)
bit_of_with_bits (suc n) f k bits l =
    ⊎_elim (λ (below : k < n). bit_at_cat_low (f n) n (with_bits n f) k below ∙ bit_of_with_bits n f k bits below)
    (λ (past : n ≤ k). let e : n ≡ k = omega arith in subst (λ (j : ℕ). bit_at (f n * 2 ^ n + with_bits n f) j ≡ f j) e (top_bit n f bits))
    (cases_lt k n)

-- the number with the bits of f is the one below 2 ^ n that has them
pub with_bits_is : (n q : ℕ) (f : ℕ → ℕ) → AreBits f → q < 2 ^ n → ((k : ℕ) → k < n → bit_at q k ≡ f k) → with_bits n f ≡ q
with_bits_is n q f bits below same =
    same_from_bits_below n (with_bits n f) q (with_bits_below n f bits) below (λ k l. bit_of_with_bits n f k bits l ∙ sym (same k l))

one_of : (b m : ℕ) → b < 2 → (1 - b) * m + b * m ≡ m
one_of zero m l = omega arith
one_of (suc zero) m l = omega arith
one_of (suc (suc b)) m l = absurd (omega arith)

-- a number and the one with the other bits make 2 ^ n - 1
pub complement_sum : (n : ℕ) (f : ℕ → ℕ) → AreBits f → with_bits n (λ k. 1 - f k) + with_bits n f + 1 ≡ 2 ^ n
unfolding with_bits
complement_sum zero f bits = refl
complement_sum (suc n) f bits =
    let before = complement_sum n f bits in
    let one = one_of (f n) (2 ^ n) (bits n) in
    let double = pow-suc 2 n in
    omega arith

natural_bits : (a : ℕ) → AreBits (λ k. bit_at a k)
natural_bits a k = bit_at-lt a k

of_natural : (n a : ℕ) → with_bits n (λ k. bit_at a k) ≡ a % 2 ^ n
of_natural n a =
    let below = mod-lt a (pow_pos n) in
    with_bits_is n (a % 2 ^ n) (λ k. bit_at a k) (natural_bits a) below
    (λ k l. sym (ap (λ (m : ℕ). bit_at m k) (sym (div-add-mod' a (2 ^ n))) ∙ bit_at_cat_low (a / 2 ^ n) n (a % 2 ^ n) k l))

pub bits_are : (z : ℤ) → AreBits (λ k. bit z k)
bits_are (pos a) k = bit_at-lt a k
bits_are (negsuc a) k = omega arith

-- the low n bits of a whole number are what is left of it modulo 2 ^ n
pub rest_is : (n : ℕ) (z : ℤ) → rest z (2 ^ n) ≡ pos (with_bits n (λ k. bit z k))
rest_is n (pos a) = ap pos (sym (of_natural n a))
rest_is n (negsuc a) =
    let sum = complement_sum n (λ k. bit_at a k) (natural_bits a) in
    let natural = of_natural n a in
    let e : 2 ^ n - 1 - a % 2 ^ n ≡ with_bits n (λ k. 1 - bit_at a k) = omega arith in
    ap pos e

pub pattern_is : (t : IntType) (z z' m r : ℤ) → z' ≡ z → m ≡ pos (2 ^ width t) → r ≡ int_rem_euclid z' m → r ≡ pos (with_bits (width t) (λ k. bit z k))
pattern_is t z z' m r ez em e =
    e ∙ ap (λ (v : ℤ). int_rem_euclid v m) ez ∙ ap (int_rem_euclid z) em ∙ rest_is (width t) z

pub pattern_at : (t : IntType) (p : ℕ) (x' x : ℤ) → p ≡ with_bits (width t) (λ k. bit x' k) → x' ≡ x → p ≡ with_bits (width t) (λ k. bit x k)
pattern_at t p x' x e ex = e ∙ ap (λ (v : ℤ). with_bits (width t) (λ k. bit v k)) ex

-- an operation that acts on each bit acts so on the numbers
pub acts : (n : ℕ) (f g : ℕ → ℕ) (act : ℕ → ℕ → ℕ) (machine : ℕ → ℕ → ℕ) → AreBits f → AreBits g → ((a b k : ℕ) → bit_at (machine a b) k ≡ act (bit_at a k) (bit_at b k)) → machine (with_bits n f) (with_bits n g) < 2 ^ n → AreBits (λ k. act (f k) (g k)) → with_bits n (λ k. act (f k) (g k)) ≡ machine (with_bits n f) (with_bits n g)
acts n f g act machine bf bg each below bits =
    with_bits_is n (machine (with_bits n f) (with_bits n g)) (λ k. act (f k) (g k)) bits below
    (λ k l. each (with_bits n f) (with_bits n g) k ∙ (λ i. act (bit_of_with_bits n f k bf l i) (bit_of_with_bits n g k bg l i)))

module _ (t : IntType) (x y : ℤ) (p q : ℕ) (ep : p ≡ with_bits (width t) (λ k. bit x k)) (eq : q ≡ with_bits (width t) (λ k. bit y k)) where
  pub and_is : int t (reduce t (pos (bit_and p q))) ≡ int t (of_bits t (λ k. min (bit x k) (bit y k)))
  unfolding of_bits
  and_is =
      let n = width t in
      let bx = bits_are x in
      let by = bits_are y in
      let below = and_lt n (with_bits n (λ k. bit x k)) (with_bits n (λ k. bit y k)) (with_bits_below n (λ k. bit x k) bx) (with_bits_below n (λ k. bit y k) by) in
      ap (λ (m : ℕ). int t (reduce t (pos m))) ((λ i. bit_and (ep i) (eq i)) ∙ sym (acts n (λ k. bit x k) (λ k. bit y k) (λ a b. min a b) (λ a b. bit_and a b) bx by bit_at_and below (λ k. let h = bx k in omega arith)))

  pub or_is : int t (reduce t (pos (bit_or p q))) ≡ int t (of_bits t (λ k. max (bit x k) (bit y k)))
  unfolding of_bits
  or_is =
      let n = width t in
      let bx = bits_are x in
      let by = bits_are y in
      let below = or_lt n (with_bits n (λ k. bit x k)) (with_bits n (λ k. bit y k)) (with_bits_below n (λ k. bit x k) bx) (with_bits_below n (λ k. bit y k) by) in
      ap (λ (m : ℕ). int t (reduce t (pos m))) ((λ i. bit_or (ep i) (eq i)) ∙ sym (acts n (λ k. bit x k) (λ k. bit y k) (λ a b. max a b) (λ a b. bit_or a b) bx by bit_at_or below (λ k. let h = bx k in let l = by k in omega arith)))

  pub xor_is : int t (reduce t (pos (bit_xor p q))) ≡ int t (of_bits t (λ k. differ (bit x k) (bit y k)))
  unfolding of_bits
  xor_is =
      let n = width t in
      let bx = bits_are x in
      let by = bits_are y in
      let below = xor_lt n (with_bits n (λ k. bit x k)) (with_bits n (λ k. bit y k)) (with_bits_below n (λ k. bit x k) bx) (with_bits_below n (λ k. bit y k) by) in
      ap (λ (m : ℕ). int t (reduce t (pos m))) ((λ i. bit_xor (ep i) (eq i)) ∙ sym (acts n (λ k. bit x k) (λ k. bit y k) (λ a b. differ a b) (λ a b. bit_xor a b) bx by bit_at_xor below (λ k. omega arith)))

pub complement_is : (t : IntType) (x : ℤ) (p ones : ℕ) → p ≡ with_bits (width t) (λ k. bit x k) → ones ≡ 2 ^ width t - 1 → int t (reduce t (pos (ones - p))) ≡ int t (of_bits t (λ k. 1 - bit x k))
unfolding of_bits
complement_is t x p ones ep eo =
    let sum = complement_sum (width t) (λ k. bit x k) (bits_are x) in
    let e : ones - p ≡ with_bits (width t) (λ k. 1 - bit x k) = omega arith in
    ap (λ (m : ℕ). int t (reduce t (pos m))) e
