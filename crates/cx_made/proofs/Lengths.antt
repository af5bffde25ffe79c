-- The lines of a made unit, one after the other, and how long they are.
use Rattle.std.proofs.Common.{◌≡◌, ℕ, ◌+◌, ◌^◌, ◌<◌, ◌≤◌, ◌++◌, List, length, arith, length-append, append_assoc, codes, refl, add-one, decimal, OnOk, Result, Ok, Err}
use Rattle.cx_base.specs.declared.Memory.{Memory}
use Rattle.std.proofs.lemmas.Fmt.{length-decimal-le}
use Rattle.cx_made.specs.Unit.{first_line, line, next_state, state_after, unit}

pub unit-first : (seed : ℕ) → unit seed 0 ≡ first_line
unfolding unit
unit-first seed = refl

pub unit-next : (seed k : ℕ) → unit seed (k + 1) ≡ unit seed k ++ line (k + 1) (state_after seed (k + 1))
unfolding unit
unit-next seed k = rw add-one refl

pub state-next : (seed k : ℕ) → state_after seed (k + 1) ≡ next_state (state_after seed k)
state-next seed k = rw add-one refl

-- a line with numbers of 64 bits
pub line_short : (number state : ℕ) → number < 2 ^ 64 → state < 2 ^ 64 → length (line number state) ≤ 80
unfolding line
line_short number state small fits =
    let numbers : length (decimal number) ≤ 20 = length-decimal-le 20 number (omega arith) (omega arith) small in
    let states : length (decimal state) ≤ 20 = length-decimal-le 20 state (omega arith) (omega arith) fits in
    simp length-append (omega (arith, numbers, states))

joined : (t opening n middle s ending a b c d e : List ℕ) → a ≡ t ++ opening → b ≡ a ++ n → c ≡ b ++ middle → d ≡ c ++ s → e ≡ d ++ ending
    → e ≡ t ++ (opening ++ n ++ middle ++ s ++ ending)
joined t opening n middle s ending a b c d e p q r u v = rw (v, u, r, q, p) (simp append_assoc)

-- a line was put behind a text in five parts
pub line_put : (t a b c d e : List ℕ) (number state : ℕ) (result : Result (Unit {0}) Memory) → a ≡ t ++ codes "constexpr unsigned v"
    → b ≡ a ++ decimal number → c ≡ b ++ codes " = f(" → d ≡ c ++ decimal state → OnOk result (e ≡ d ++ codes "u);\n")
    → OnOk result (e ≡ t ++ line number state)
unfolding line
line_put t a b c d e number state (Ok x) p q r u v =
    joined t (codes "constexpr unsigned v") (decimal number) (codes " = f(") (decimal state) (codes "u);\n") a b c d e p q r u v
line_put t a b c d e number state (Err x) p q r u v = tt
