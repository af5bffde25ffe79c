-- A fact that follows from each of several follows from one of them.
use Rattle.std.proofs.Common.{◌≡◌, ◌⊎◌, inl, inr, Bool, true, sym, ap, ◌∙◌}

infixr 5 ◌▿◌
abbrev pub ◌▿◌ : {P Q X : Type 0} → (P → X) → (Q → X) → P ⊎ Q → X
(f ▿ g) (inl p) = f p
(f ▿ g) (inr q) = g q

-- what holds of a value holds of what equals it
pub hit : {A : Type 0} (f : A → Bool) {c v : A} → true ≡ f v → c ≡ v → true ≡ f c
hit f t e = t ∙ sym (ap f e)
