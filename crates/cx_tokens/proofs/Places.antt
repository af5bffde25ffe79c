-- The first place where a test holds.
use Rattle.std.proofs.Common.{ℕ, ◌+◌, ◌≤◌, Bool, true, false, cond, List, [], ◌∷◌, length, arith}
use Rattle.cx_tokens.specs.Bytes.{place_where}

-- it stands within the bytes
pub place_below : (test : List ℕ → Bool) (bytes : List ℕ) → place_where test bytes ≤ length bytes
place_below test [] = omega arith
place_below test (b ∷ bytes) =
    let h = place_below test bytes in
    elim (test (b ∷ bytes)) as (λ v. cond v 0 (1 + place_where test bytes) ≤ length (b ∷ bytes)) [ true ↦ omega arith | false ↦ omega arith ]
