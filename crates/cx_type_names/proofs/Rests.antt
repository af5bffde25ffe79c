-- The places of a list.
use Rattle.std.proofs.Common.{◌≡◌, ℕ, zero, suc, ◌-◌, ◌<◌, List, [], ◌∷◌, drop, refl, ap, ◌∙◌, arith}
use Rattle.cx_token_defs.specs.declared.Token.{Token}
use Rattle.cx_type_names.specs.Walk.{rest_of}

-- what stands behind the token before a place
pub rest_of-drop : (n : ℕ) (s : List Token) → 0 < n → rest_of (drop (n - 1) s) ≡ drop n s
rest_of-drop zero s h = absurd (omega arith)
rest_of-drop (suc n) s h = let e : suc n - 1 ≡ n = omega arith in ap (λ k. rest_of (drop k s)) e ∙ on n s
  where
    on : (n : ℕ) (s : List Token) → rest_of (drop n s) ≡ drop (suc n) s
    on zero [] = refl
    on zero (t ∷ s) = refl
    on (suc n) [] = refl
    on (suc n) (t ∷ s) = on n s
