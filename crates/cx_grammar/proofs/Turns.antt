-- One turn of a repetition and then others, or what ends it.
use Rattle.std.proofs.Common.{◌≡◌, ℕ, Bool, false, IsTrue, List, [], ◌∷◌, ◌++◌, refl, sym, ◌∙◌, ap, subst, append_assoc}
use Rattle.cx_base.specs.declared.rule.Rule.{Rule}
use Rattle.cx_grammar.specs.Language.{◌>>◌, ◌<$>◌, BeginsPresent, present, empty, joined, no_turn, SpellsMany}
use Rattle.cx_grammar.specs.Exact.{Family, GoesOn, Done, Stopped, Outcome, done, stop, Exact}
use Rattle.cx_grammar.specs.Reading.{made}
use Rattle.cx_grammar.proofs.Both.{Joins, exact_both, both_stop, followed}
use Rattle.cx_grammar.proofs.Elsewhere.{elsewhere_as, elsewhere_both, not_false}
use Rattle.cx_grammar.proofs.Parts.{exact_as, exact_empty, Covered, Elsewhere}

-- A turn (G) is never empty, the others (K) do not begin with what goes on with it, and what goes on with them or with the turn goes on with all.
pub record Turn {T A : Type 0} (G : Family T A) (K : Family T (List A)) (go_g : A → T → Bool) (go : List A → T → Bool) : Type 0 where
  pub begins : (n : ℕ) (a : A) (t : T) (x : List T) → (K n).begins (t ∷ x) → IsTrue (go_g a t) → ⊥
  pub spells : (n : ℕ) (a : A) (t : T) (x : List T) (w : List A) → (K n).spells (t ∷ x) w → IsTrue (go_g a t) → ⊥
  pub after : (v : A) (vs : List A) (t : T) → IsTrue (go_g v t) → IsTrue (go (v ∷ vs) t)
  pub later : (v : A) (vs : List A) (t : T) → IsTrue (go vs t) → IsTrue (go (v ∷ vs) t)

module _ {T A : Type 0} (G : Family T A) (K : Family T (List A)) (go_g : A → T → Bool) (go : List A → T → Bool) (least : ℕ) (m : Turn G K go_g go) where
  -- one turn and then others
  abbrev pub more : Family T (List A)
  more n = joined <$> (present (G n) >> K n)

  abbrev go_both : A × List A → T → Bool
  go_both p t = go (p.0 ∷ p.1) t

  joins : Joins (λ n. present (G n)) K go_g go go_both
  joins = record { begins = m.begins; spells = m.spells; after = λ v t h. m.later v.0 v.1 t h; over = λ n v t s h. m.after v.0 v.1 t h }

  made_then : (v : A) (o : Outcome T (List A)) → made joined (followed (λ n. present (G n)) K go_g go go_both joins v o) ≡ made (λ vs. v ∷ vs) o
  made_then v (done vs rest) = refl
  made_then v (stop rule left) = refl

  pub more_read : (ts rest : List T) (v : A) (o : Outcome T (List A)) → Done (λ n. present (G n)) go_g least ts v rest → Exact K go least rest o → Exact more go least ts (made (λ vs. v ∷ vs) o)
  more_read ts rest v o g h = let P : Outcome T (List A) → Type 0 = λ z. Exact more go least ts z in
      subst P (made_then v o) (exact_as joined (λ n. present (G n) >> K n) go_both go (λ p t h. h) least ts (followed (λ n. present (G n)) K go_g go go_both joins v o)
      (exact_both (λ n. present (G n)) K go_g go go_both joins least ts rest v o g h))

  pub more_stopped : (ts : List T) (rule : Rule) (left : ℕ) → Stopped (λ n. present (G n)) go_g least ts rule left → Stopped more go least ts rule left
  more_stopped ts rule left g = exact_as joined (λ n. present (G n) >> K n) go_both go (λ p t h. h) least ts (stop rule left)
      (both_stop (λ n. present (G n)) K go_g go go_both joins least ts rule left g)

  pub no_more : (ts : List T) → Elsewhere (λ n. present (G n)) ts → Elsewhere more ts
  no_more ts o = elsewhere_as joined (λ n. present (G n) >> K n) ts (elsewhere_both (λ n. present (G n)) K ts o)

-- ---- no turn

module _ {T A : Type 0} (go : List A → T → Bool) where
  abbrev pub no_turns : Family T (List A)
  no_turns n = no_turn

  pub covered_none : (ts : List T) → GoesOn go [] ts → (used : List T) → Covered no_turns go (λ n. Unit {0}) ts used
  covered_none ts h used = record {
    only = λ n q x y w e s. let whole : ts ≡ y = e ∙ ap (λ l. l ++ y) s.part in ((used, sym (ap (λ l. l ++ used) s.part)), let P : List A → Type 0 = λ z. GoesOn go z y in subst P (sym s.made) (subst (GoesOn go []) whole h));
    ends = λ n q x y e b. (used, sym (ap (λ l. l ++ used) b));
  }

  pub none_done : (least : ℕ) (ts : List T) → Done no_turns go least ts [] ts
  none_done least ts = exact_as (λ _. []) (λ n. empty) (λ _ _. false) go (λ v t h. absurd (not_false h)) least ts (done tt ts) (exact_empty (λ _ _. false) least ts)

-- ---- what whole turns begin with

module _ {T A : Type 0} (G : Family T A) (full : (n : ℕ) (w : A) → (G n).spells [] w → ⊥) where
  pub shorter_by_turn : (n : ℕ) (t : T) (x f b : List T) (v : A) (P : T → Type 0) → ((t : T) (x : List T) (w : A) → (G n).spells (t ∷ x) w → P t) → t ∷ x ≡ f ++ b → (G n).spells f v → P t
  shorter_by_turn n t x [] b v P k e s = absurd (full n v s)
  shorter_by_turn n t x (u ∷ f) b v P k e s = let heads : u ≡ t = cc in subst P heads (k u f v s)

  pub many_spelled : (n : ℕ) (t : T) (x : List T) (w : List A) (P : T → Type 0) → ((t : T) (x : List T) (w : A) → (G n).spells (t ∷ x) w → P t) → SpellsMany (G n) (t ∷ x) w → P t
  many_spelled n t x [] P k s = cc
  many_spelled n t x (v ∷ vs) P k s = shorter_by_turn n t x s.0 s.1 v P k s.2 s.3

  pub many_begun : (n : ℕ) (t : T) (x f b : List T) (vs : List A) (P : T → Type 0) → ((t : T) (x : List T) (w : A) → (G n).spells (t ∷ x) w → P t) → ((t : T) (x : List T) → BeginsPresent (G n) (t ∷ x) → P t)
      → t ∷ x ≡ f ++ b → SpellsMany (G n) f vs → BeginsPresent (G n) b → P t
  many_begun n t x f b [] P k k2 e s c = let whole : b ≡ t ∷ x = sym (e ∙ ap (λ l. l ++ b) s) in let Q : List T → Type 0 = λ l. BeginsPresent (G n) l in k2 t x (subst Q whole c)
  many_begun n t x f b (v ∷ vs) P k k2 e s c = shorter_by_turn n t x s.0 (s.1 ++ b) v P k (e ∙ (ap (λ l. l ++ b) s.2 ∙ append_assoc s.0 s.1 b)) s.3
