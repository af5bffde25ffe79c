-- What is left of a whole number modulo n, and the number of a range of n numbers that is congruent to it.
use Rattle.std.proofs.Common.{◌≡◌, ℕ, ◌+◌, ◌-◌, ◌*◌, ◌%◌, ◌/◌, ◌<◌, ◌≤◌, ℤ, pos, negsuc, ◌+ℤ◌, ◌-ℤ◌, ◌≤ℤ◌, ◌<ℤ◌, refl, sym, ◌∙◌, ap, arith}
use Rattle.std.specs.Int.{int_rem_euclid}
use Rattle.std.proofs.lemmas.Int.{int_rem_euclid_is, ints}
use Rattle.std.proofs.Math.Nat.{mul-le-mul_left, div-add-mod', mod-lt, mod-eq_of_lt}
use borrow.Author.Differences.{up, down}

abbrev pub rest : ℤ → ℕ → ℤ
rest z n = int_rem_euclid z (pos n)

-- numbers that differ by a multiple of n leave the same
pub rest_same : (a b : ℤ) (n j k : ℕ) → 0 < n → a +ℤ pos (j * n) ≡ b +ℤ pos (k * n) → rest a n ≡ rest b n
rest_same a b n j k some e =
    let t = down a + down b in
    let far : t * 1 ≤ t * n = mul-le-mul_left t some in
    let m = up a + (j + t) * n - down a in
    let from : (z : ℤ) (i : ℕ) → z +ℤ pos ((i + t) * n) ≡ pos m → rest z n ≡ pos (m % n) = λ z i h. int_rem_euclid_is z (pos n) n (i + t) m some refl h in
    from a j (omega (arith, ints)) ∙ sym (from b k (omega (arith, ints)))

-- what is left differs from the number by a multiple of n
pub rest_differs : (z : ℤ) (n : ℕ) → 0 < n → (j : ℕ) × (k : ℕ) × (rest z n +ℤ pos (j * n) ≡ z +ℤ pos (k * n))
rest_differs (pos a) n some = (a / n, 0, let h = div-add-mod' a n in omega (arith, ints))
rest_differs (negsuc a) n some = (0, a / n + 1, let h = div-add-mod' a n in let l = mod-lt a some in omega (arith, ints))

pub rest_from : (z : ℤ) (n : ℕ) → 0 < n → pos 0 ≤ℤ rest z n
rest_from (pos a) n some = omega (arith, ints)
rest_from (negsuc a) n some = omega (arith, ints)

pub rest_below : (z : ℤ) (n : ℕ) → 0 < n → rest z n <ℤ pos n
rest_below (pos a) n some = let l = mod-lt a some in omega (arith, ints)
rest_below (negsuc a) n some = let l = mod-lt a some in omega (arith, ints)

pub rest_itself : (z : ℤ) (n : ℕ) → pos 0 ≤ℤ z → z <ℤ pos n → rest z n ≡ z
rest_itself (pos a) n h l = let s : a < n = omega (arith, ints) in ap pos (mod-eq_of_lt s)
rest_itself (negsuc a) n h l = absurd (omega (arith, ints))

-- to take what is left on the way changes nothing
pub rest_minus : (z low : ℤ) (n : ℕ) → 0 < n → rest (rest z n -ℤ low) n ≡ rest (z -ℤ low) n
rest_minus z low n some =
    let d = rest_differs z n some in
    rest_same (rest z n -ℤ low) (z -ℤ low) n d.0 d.1 some (omega (arith, ints, d.2))
