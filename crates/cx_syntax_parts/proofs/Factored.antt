-- Alternatives that begin with the same token.
use Rattle.std.proofs.Common.{◌≡◌, ℕ, suc, Bool, true, ◌||◌, [], refl, ◌∙◌, ap, inl, inr}
use Rattle.cx_grammar.specs.Language.{the, ◌>>◌, ◌<$>◌, ◌∥◌, ◌⊳◌, in_first, in_second, none_yet, some, nothing, present}
use Rattle.cx_grammar.specs.Exact.{Family}
use Rattle.cx_grammar.specs.Reading.{Reader, ◌⊳◌ as ◌▷◌}
use Rattle.cx_grammar.specs.Sets.{by}
use Rattle.cx_grammar.proofs.Factor.{either_both}
use Rattle.cx_grammar.proofs.Parts.{Same}
use Rattle.cx_grammar.proofs.Sames.{exactly_same, same_sym, same_trans, same_as, same_present, same_either}
use Rattle.cx_grammar.proofs.Steps.{Exactly, exactly_made, exactly_next, exactly_token}
use Rattle.cx_syntax.specs.declared.lexeme.Lexeme.{Lexeme}
use Rattle.cx_syntax.proofs.Basics.{exactly_stays}

-- what is made of a part behind a token
module _ {T A B : Type 0} (p : T → Bool) (f : A → B) (G : Family T A) where
  pub as_before : Same (λ n. f <$> (p ⊳ G n)) (λ n. p ⊳ (f <$> G n))
  as_before = record {
    spells = λ n x w s. record { value = (s.part.value.0, w); made = refl; part = record { front = s.part.part.front; back = s.part.part.back; cut = s.part.part.cut; first = s.part.part.first; second = record { value = s.part.value.1; made = s.made ∙ ap f s.part.made; part = s.part.part.second } } };
    spelled = λ n x w s. record { value = s.part.second.value; made = s.made ∙ s.part.second.made; part = record { value = (s.value.0, s.part.second.value); made = refl; part = record { front = s.part.front; back = s.part.back; cut = s.part.cut; first = s.part.first; second = s.part.second.part } } };
    begins = λ n x b. elim b [ in_first c ↦ in_first c | in_second g k v cut s c ↦ in_second g k v cut s c ];
    begun = λ n x b. elim b [ in_first c ↦ in_first c | in_second g k v cut s c ↦ in_second g k v cut s c ];
  }

-- the same made of two alternatives
module _ {T A B : Type 0} (f : A → B) (G H : Family T A) where
  pub as_either : Same (λ n. (f <$> G n) ∥ (f <$> H n)) (λ n. f <$> (G n ∥ H n))
  as_either = record {
    spells = λ n x w s. elim s [ inl a ↦ record { value = a.value; made = a.made; part = inl a.part } | inr b ↦ record { value = b.value; made = b.made; part = inr b.part } ];
    spelled = λ n x w s. elim s.part [ inl a ↦ inl (record { value = s.value; made = s.made; part = a }) | inr b ↦ inr (record { value = s.value; made = s.made; part = b }) ];
    begins = λ n x s. elim s [ inl a ↦ inl (elim a [ none_yet none ↦ none_yet none | some st c ↦ some st c ]) | inr b ↦ inr (elim b [ none_yet none ↦ none_yet none | some st c ↦ some st c ]) ];
    begun = λ n x s. elim s [ inl a ↦ inl (elim a [ none_yet none ↦ none_yet none | some st c ↦ some st c ]) | inr b ↦ inr (elim b [ none_yet none ↦ none_yet none | some st c ↦ some st c ]) ];
  }

-- A token behind which one of two parts stands: read the token, and then either.
module _ {A B C : Type 0} (p : Lexeme → Bool) (f : A → C) (g : B → C) (G : Family Lexeme A) (H : Family Lexeme B) (blank_g : (n : ℕ) → (G n).begins []) (blank_h : (n : ℕ) → (H n).begins []) where
  abbrev joint : Family Lexeme (Unit {0} × C)
  joint n = the p >> ((f <$> G n) ∥ (g <$> H n))

  pub behind_token : Same (λ n. (f <$> (p ⊳ G n)) ∥ (g <$> (p ⊳ H n))) (λ n. (λ (pair : _ × _). pair.1) <$> present (joint n))
  behind_token = same_trans (same_either (same_present (as_before p f G) (λ n. refl)) (same_present (as_before p g H) (λ n. refl)))
      (same_trans (as_either (λ pair. pair.1) (λ n. the p >> (f <$> G n)) (λ n. the p >> (g <$> H n)))
      (same_as (λ pair. pair.1) (either_both (λ n. the p) (λ n. f <$> G n) (λ n. g <$> H n) (λ n. nothing refl) blank_g blank_h)))

  module _ {q : Lexeme → Bool} {left : ℕ} {read : Reader Lexeme C} (last : ((G 0).stays || (H 0).stays) ≡ true) (before : (n : ℕ) → ((G (suc n)).stays || (H (suc n)).stays) ≡ true) (e : Exactly (λ n. (f <$> G n) ∥ (g <$> H n)) (by q) left read) where
    pub exactly_behind_token : Exactly (λ n. (f <$> (p ⊳ G n)) ∥ (g <$> (p ⊳ H n))) (by q) left (p ▷ read)
    exactly_behind_token = exactly_same (same_sym behind_token) (exactly_made (λ v t. q t) (by q) (λ pair. pair.1) (λ v t h. h) (exactly_stays last before (exactly_next (by q) exactly_token e)))
