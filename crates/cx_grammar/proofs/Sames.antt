-- Two ways to write one language stay the same inside a greater one.
use Rattle.std.proofs.Common.{◌≡◌, ℕ, Bool, List, sym, ◌∙◌, inl, inr}
use Rattle.cx_grammar.specs.Language.{◌>>◌, ◌<$>◌, ◌∥◌, ◌⊳◌, ◌⊲◌, the, in_first, in_second, none_yet, some, present, such}
use Rattle.cx_grammar.specs.Exact.{Family, Outcome}
use Rattle.cx_grammar.specs.Reading.{Reader}
use Rattle.cx_grammar.proofs.Parts.{Same, exact_same}
use Rattle.cx_grammar.proofs.Steps.{Exactly}
use Rattle.cx_grammar.proofs.Choices.{Right}

pub same_refl : {T A : Type 0} (G : Family T A) → Same G G
same_refl G = record { spells = λ n x w s. s; spelled = λ n x w s. s; begins = λ n x b. b; begun = λ n x b. b }

pub same_sym : {T A : Type 0} {G H : Family T A} → Same G H → Same H G
same_sym e = record { spells = e.spelled; spelled = e.spells; begins = e.begun; begun = e.begins }

pub same_trans : {T A : Type 0} {G H K : Family T A} → Same G H → Same H K → Same G K
same_trans e f = record {
  spells = λ n x w s. f.spells n x w (e.spells n x w s);
  spelled = λ n x w s. e.spelled n x w (f.spelled n x w s);
  begins = λ n x b. f.begins n x (e.begins n x b);
  begun = λ n x b. e.begun n x (f.begun n x b);
}

-- a reader that is exact for a language is exact for the same one
pub exactly_same : {T A : Type 0} {G H : Family T A} {go : A → T → Bool} {least : ℕ} {read : Reader T A} → Same G H → Exactly G go least read → Exactly H go least read
exactly_same {G = G} {H = H} {go = go} {least = least} {read = read} e g = record { at = λ ts. exact_same G H go e least ts (read ts) (g.at ts) }

pub right_same : {T A : Type 0} {G H : Family T A} {go : A → T → Bool} {least : ℕ} {ts : List T} {o : Outcome T A} → Same G H → Right G go least ts o → Right H go least ts o
right_same {G = G} {H = H} {go = go} {least = least} {ts = ts} {o = o} e g = record { exact = exact_same G H go e least ts o g.exact }

pub same_as : {T A B : Type 0} {G H : Family T A} (f : A → B) → Same G H → Same (λ n. f <$> G n) (λ n. f <$> H n)
same_as f e = record {
  spells = λ n x w s. record { value = s.value; made = s.made; part = e.spells n x s.value s.part };
  spelled = λ n x w s. record { value = s.value; made = s.made; part = e.spelled n x s.value s.part };
  begins = e.begins;
  begun = e.begun;
}

pub same_both : {T A B : Type 0} {G G' : Family T A} {H H' : Family T B} → Same G G' → Same H H' → Same (λ n. G n >> H n) (λ n. G' n >> H' n)
same_both e f = record {
  spells = λ n x w s. record { front = s.front; back = s.back; cut = s.cut; first = e.spells n s.front w.0 s.first; second = f.spells n s.back w.1 s.second };
  spelled = λ n x w s. record { front = s.front; back = s.back; cut = s.cut; first = e.spelled n s.front w.0 s.first; second = f.spelled n s.back w.1 s.second };
  begins = λ n x b. elim b [ in_first c ↦ in_first (e.begins n x c) | in_second g k v cut s c ↦ in_second g k v cut (e.spells n g v s) (f.begins n k c) ];
  begun = λ n x b. elim b [ in_first c ↦ in_first (e.begun n x c) | in_second g k v cut s c ↦ in_second g k v cut (e.spelled n g v s) (f.begun n k c) ];
}

-- an alternative stays present only where the two stay at the same levels
module _ {T A : Type 0} {G H : Family T A} (e : Same G H) (st : (n : ℕ) → (G n).stays ≡ (H n).stays) where
  pub same_present : Same (λ n. present (G n)) (λ n. present (H n))
  same_present = record {
    spells = e.spells;
    spelled = e.spelled;
    begins = λ n x b. elim b [ none_yet none ↦ none_yet none | some s c ↦ some (sym (st n) ∙ s) (e.begins n x c) ];
    begun = λ n x b. elim b [ none_yet none ↦ none_yet none | some s c ↦ some (st n ∙ s) (e.begun n x c) ];
  }

pub same_either : {T A : Type 0} {G G' H H' : Family T A} → Same (λ n. present (G n)) (λ n. present (G' n)) → Same (λ n. present (H n)) (λ n. present (H' n)) → Same (λ n. G n ∥ H n) (λ n. G' n ∥ H' n)
same_either e f = record {
  spells = λ n x w s. elim s [ inl a ↦ inl (e.spells n x w a) | inr b ↦ inr (f.spells n x w b) ];
  spelled = λ n x w s. elim s [ inl a ↦ inl (e.spelled n x w a) | inr b ↦ inr (f.spelled n x w b) ];
  begins = λ n x s. elim s [ inl a ↦ inl (e.begins n x a) | inr b ↦ inr (f.begins n x b) ];
  begun = λ n x s. elim s [ inl a ↦ inl (e.begun n x a) | inr b ↦ inr (f.begun n x b) ];
}

-- the order of alternatives does not matter
pub swapped : {T A : Type 0} (G H : Family T A) → Same (λ n. G n ∥ H n) (λ n. H n ∥ G n)
swapped G H = record {
  spells = λ n x w s. elim s [ inl a ↦ inr a | inr b ↦ inl b ];
  spelled = λ n x w s. elim s [ inl a ↦ inr a | inr b ↦ inl b ];
  begins = λ n x s. elim s [ inl a ↦ inr a | inr b ↦ inl b ];
  begun = λ n x s. elim s [ inl a ↦ inr a | inr b ↦ inl b ];
}

pub same_before : {T A : Type 0} {G H : Family T A} (p : T → Bool) → Same G H → Same (λ n. p ⊳ G n) (λ n. p ⊳ H n)
same_before p e = same_as (λ pair. pair.1) (same_both (same_refl (λ n. the p)) e)

pub same_behind : {T A : Type 0} {G H : Family T A} (p : T → Bool) → Same G H → Same (λ n. G n ⊲ p) (λ n. H n ⊲ p)
same_behind p e = same_as (λ pair. pair.0) (same_both e (same_refl (λ n. the p)))

pub same_such : {T A : Type 0} {G H : Family T A} (p : A → Bool) → Same G H → Same (λ n. such p (G n)) (λ n. such p (H n))
same_such p e = record {
  spells = λ n x w s. record { part = e.spells n x w s.part; such_a = s.such_a };
  spelled = λ n x w s. record { part = e.spelled n x w s.part; such_a = s.such_a };
  begins = e.begins;
  begun = e.begun;
}
