-- Steps for readers where what goes on depends on the value.
use Rattle.std.proofs.Common.{◌≡◌, ℕ, Bool, true, false, if◌then◌else◌, List, [], ◌∷◌, ◌++◌, Option, Some, None, refl, sym, ◌∙◌, ap, subst}
use Rattle.cx_grammar.specs.Language.{◌>>◌, ◌<$>◌, ◌⊳◌, present, empty, maybe, measured, passing}
use Rattle.cx_grammar.specs.Exact.{Family, GoesOn, same, shorter, Outcome, done, stop, Exact}
use Rattle.cx_grammar.specs.Reading.{Reader, made, taken, measured_by, maybe_if, sees, ◌>>=◌, ◌>>◌ as ◌|>◌, ◌⊳◌ as ◌▷◌}
use Rattle.cx_grammar.specs.Sets.{by, never}
use Rattle.cx_grammar.proofs.Both.{Joins, exact_both, both_stop}
use Rattle.cx_grammar.proofs.Parts.{Covered, exact_as, exact_right, exact_left, exact_empty, elsewhere}
use Rattle.cx_grammar.proofs.Heads.{Heads, heads_as, heads_present, heads_elsewhere, blank_seen}
use Rattle.cx_grammar.proofs.Steps.{Exactly, ExactlyAt, exactly_token, exactly_next, exactly_made}
use Rattle.cx_grammar.proofs.Sides.{taken_is}

-- more tokens may go on
module _ {T A : Type 0} (L : Family T A) (go go2 : A → T → Bool) (left : ℕ) (k : (v : A) (t : T) → go v t ≡ true → go2 v t ≡ true) where
  pub goes : (v : A) (y : List T) → GoesOn go v y → GoesOn go2 v y
  goes v [] h = h
  goes v (t ∷ y) h = k v t h

  pub widened : (ts : List T) (o : Outcome T A) → Exact L go left ts o → Exact L go2 left ts o
  widened ts (done v rest) e = record {
    used = e.used;
    spells = e.spells;
    core = record { cut = e.core.cut; begins = e.core.begins; ends = e.core.ends; only = λ n q x y w c s. elim (e.core.only n q x y w c s) [ same a b d ↦ same a b d | shorter a b ↦ shorter a (goes w y b) ] };
  }
  widened ts (stop rule l) e = record {
    used = e.used;
    rest = e.rest;
    size = e.size;
    is = e.is;
    deep = e.deep;
    core = record { cut = e.core.cut; begins = e.core.begins; ends = e.core.ends; only = λ n q x y w c s. elim (e.core.only n q x y w c s) [ same a b d ↦ absurd d | shorter a b ↦ shorter a (goes w y b) ] };
  }

pub exactly_go : {T A : Type 0} {L : Family T A} (go go2 : A → T → Bool) {left : ℕ} {read : Reader T A} → ((v : A) (t : T) → go v t ≡ true → go2 v t ≡ true) → Exactly L go left read → Exactly L go2 left read
exactly_go {L = L} go go2 {left = left} {read = read} k g = record { at = λ ts. widened L go go2 left k ts (read ts) (g.at ts) }

-- one part and then another
module _ {T A B : Type 0} {G : Family T A} {H : Family T B} (go_g : A → T → Bool) (go_h : B → T → Bool) (go : A × B → T → Bool) {left : ℕ} {read : Reader T A} {s : Reader T B} (j : Joins G H go_g go_h go) (g : Exactly G go_g left read) (h : Exactly H go_h left s) where
  pub joined_at : (ts : List T) (o : Outcome T A) → Exact G go_g left ts o → Exact (λ n. G n >> H n) go left ts (o >>= (λ a rest. made (λ b. (a, b)) (s rest)))
  joined_at ts (done v rest) e = exact_both G H go_g go_h go j left ts rest v (s rest) e (h.at rest)
  joined_at ts (stop rule l) e = both_stop G H go_g go_h go j left ts rule l e

  pub exactly_joined : Exactly (λ n. G n >> H n) go left (read |> s)
  exactly_joined = record { at = λ ts. joined_at ts (read ts) (g.at ts) }

-- a token before a part
pub exactly_led : {T A : Type 0} {G : Family T A} (go : A → T → Bool) {left : ℕ} {read : Reader T A} (p : T → Bool) → Exactly G go left read → Exactly (λ n. p ⊳ G n) go left (p ▷ read)
exactly_led go p g = exactly_made (λ v t. go v.1 t) go (λ pair. pair.1) (λ v t h. h) (exactly_next go (exactly_token {f = passing p}) g)

-- what a part's own tokens give
module _ {T A M : Type 0} (f : List T → M) (G : Family T A) (go : A → T → Bool) (left : ℕ) where
  abbrev go_measured : A × M → T → Bool
  go_measured w t = go w.0 t

  pub goes_measured : (w : A × M) (y : List T) → GoesOn go w.0 y → GoesOn go_measured w y
  goes_measured w [] h = h
  goes_measured w (t ∷ y) h = h

  pub pair_is : (w : A × M) (v : A) (x used : List T) → w.0 ≡ v → w.1 ≡ f x → x ≡ used → w ≡ (v, f used)
  pair_is (a, m) v x used p q e = let s : m ≡ f used = q ∙ ap f e in cc

  pub measured_read : (ts : List T) (o : Outcome T A) → Exact G go left ts o → Exact (λ n. measured f (G n)) go_measured left ts (o >>= (λ v rest. done (v, f (taken ts rest)) rest))
  measured_read ts (done v rest) g = let is = taken_is ts g.used rest g.core.cut in record {
    used = g.used;
    spells = λ n l. record { part = g.spells n l; measure = ap f is };
    core = record {
      cut = g.core.cut;
      begins = g.core.begins;
      ends = g.core.ends;
      only = λ n q x y w e h. elim (g.core.only n q x y w.0 e h.part) [
        | same a b c ↦ same a b (pair_is w v x (taken ts rest) c h.measure (a ∙ sym is))
        | shorter a b ↦ shorter a (goes_measured w y b)
      ];
    };
  }
  measured_read ts (stop rule l) g = record {
    used = g.used;
    rest = g.rest;
    size = g.size;
    is = g.is;
    deep = λ e. let d = g.deep e in record { token = d.token; after = d.after; is = d.is; enough = d.enough; begins = d.begins };
    core = record {
      cut = g.core.cut;
      begins = g.core.begins;
      ends = g.core.ends;
      only = λ n q x y w e h. elim (g.core.only n q x y w.0 e h.part) [ same a b c ↦ absurd c | shorter a b ↦ shorter a (goes_measured w y b) ];
    };
  }

pub exactly_spanned : {T A M : Type 0} (f : List T → M) {G : Family T A} (go : A → T → Bool) {left : ℕ} {read : Reader T A} → Exactly G go left read → Exactly (λ n. measured f (G n)) (λ w t. go w.0 t) left (measured_by f read)
exactly_spanned f {G = G} go {left = left} {read = read} g = record { at = λ ts. measured_read f G go left ts (read ts) (g.at ts) }

-- a part that may be left out
module _ {T A : Type 0} {G : Family T A} {p : T → Bool} (go_g : A → T → Bool) (go : Option A → T → Bool) {left : ℕ} {read : Reader T A} (h : Heads G p) (g : ExactlyAt p (λ n. present (G n)) go_g left read)
    (some_goes : (v : A) (t : T) → go_g v t ≡ true → go (Some v) t ≡ true) (none_goes : (t : T) → p t ≡ true → go None t ≡ true) where
  abbrev left_out : Family T (Option A)
  left_out n = (λ _. None) <$> empty

  abbrev taken_in : Family T (Option A)
  taken_in n = Some <$> present (G n)

  pub none_first : (ts : List T) → sees p ts ≡ true → GoesOn go None ts
  none_first [] seen = blank_seen p seen
  none_first (t ∷ ts) seen = none_goes t seen

  pub none_covered : (ts : List T) → sees p ts ≡ true → (used : List T) → Covered left_out go (λ n. Unit {0}) ts used
  none_covered ts seen used = record {
    only = λ n i x y w e s. let none = s.part in let whole : ts ≡ y = e ∙ ap (λ l. l ++ y) none in
        ((used, sym (ap (λ l. l ++ used) none)), let P : Option A → Type 0 = λ z. GoesOn go z y in subst P (sym s.made) (subst (GoesOn go None) whole (none_first ts seen)));
    ends = λ n i x y e b. (used, sym (ap (λ l. l ++ used) b));
  }

  pub maybe_at : (ts : List T) (b : Bool) → sees p ts ≡ b → Exact (λ n. maybe (G n)) go left ts (if b then made Some (read ts) else done None ts)
  maybe_at ts true seen = exact_right left_out taken_in go left ts (made Some (read ts)) (none_covered ts seen) (exact_as Some (λ n. present (G n)) go_g go some_goes left ts (read ts) (g.at ts seen))
  maybe_at ts false unseen = exact_left left_out taken_in go left ts (done None ts)
      (elsewhere taken_in go ts (heads_elsewhere (heads_as Some (heads_present h)) ts unseen))
      (exact_as (λ _. None) (λ n. empty) (by never) go (λ v t i. cc) left ts (done tt ts) (exact_empty (by never) left ts))

  pub exactly_perhaps : Exactly (λ n. maybe (G n)) go left (maybe_if p read)
  exactly_perhaps = record { at = λ ts. maybe_at ts (sees p ts) refl }
