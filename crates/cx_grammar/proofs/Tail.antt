-- One part, and behind it, if its value is such, perhaps another: the nearest `if` takes the `else`.
use Rattle.std.proofs.Common.{◌≡◌, ℕ, Bool, true, false, ◌&&◌, if◌then◌else◌, List, [], ◌∷◌, ◌++◌, Option, Some, None, refl, sym, ◌∙◌, ap, subst, inl, inr, append_assoc, arith}
use Rattle.std.proofs.lemmas.List.{append-nil}
use Rattle.cx_base.specs.declared.rule.Rule.{Rule}
use Rattle.cx_grammar.specs.Language.{◌>>◌, ◌<$>◌, such, alone, along, with_tail, in_first, in_second, BeginsPresent, present}
use Rattle.cx_grammar.specs.Exact.{Family, GoesOn, Within, same, shorter, Core, Reaches, Done, Stopped, Outcome, done, stop, Exact}
use Rattle.cx_grammar.specs.Reading.{Reader, made, sees, tail_if, ◌>>=◌}
use Rattle.cx_grammar.proofs.Both.{Joins, exact_both, followed}
use Rattle.cx_grammar.proofs.Parts.{Covered, core_left, core_right, core_as, deep_as, deep_left, deep_right, exact_as}
use Rattle.cx_grammar.proofs.Heads.{Heads, heads_present, not_both}
use Rattle.cx_grammar.proofs.Unless.{within_trans}
use Rattle.cx_grammar.proofs.Steps.{Exactly, ExactlyAt}

and_left : (b c : Bool) → (b && c) ≡ true → b ≡ true
and_left true c e = refl
and_left false c e = e

and_right : (b c : Bool) → (b && c) ≡ true → c ≡ true
and_right true c e = e
and_right false c e = cc

module _ {T A B : Type 0} (G : Family T A) (H : Family T B) (p : A → Bool) (go_g : A → T → Bool) (go_h : B → T → Bool) (go : A × Option B → T → Bool) (test : T → Bool)
    (heads : Heads H test)
    (apart : (a : A) (t : T) → p a ≡ true → go_g a t ≡ true → test t ≡ true → ⊥)
    (after_none : (a : A) (t : T) → go_g a t ≡ true → go (a, None) t ≡ true)
    (first : (a : A) (t : T) → p a ≡ true → test t ≡ true → go (a, None) t ≡ true)
    (after_some : (a : A) (b : B) (t : T) → go_h b t ≡ true → go (a, Some b) t ≡ true)
  where
    abbrev go_such : A → T → Bool
    go_such a t = p a && go_g a t

    goes_such : (w : A) (y : List T) → p w ≡ true → GoesOn go_g w y → GoesOn go_such w y
    goes_such w [] s h = h
    goes_such w (t ∷ y) s h = ap (λ b. b && go_g w t) s ∙ h

    goes_none : (w : A) (y : List T) → GoesOn go_g w y → GoesOn go (w, None) y
    goes_none w [] h = h
    goes_none w (t ∷ y) h = after_none w t h

    such_done : (least : ℕ) (ts rest : List T) (v : A) → p v ≡ true → Done G go_g least ts v rest → Done (λ n. such p (G n)) go_such least ts v rest
    such_done least ts rest v s g = record {
      used = g.used;
      spells = λ n l. record { part = g.spells n l; such_a = s };
      core = record {
        cut = g.core.cut;
        begins = g.core.begins;
        ends = g.core.ends;
        only = λ n q x y w e h. elim (g.core.only n q x y w e h.part) [ same a b c ↦ same a b c | shorter a b ↦ shorter a (goes_such w y h.such_a b) ];
      };
    }

    abbrev go_both : A × B → T → Bool
    go_both v t = go_h v.1 t

    pub joins : Joins (λ n. such p (G n)) (λ n. present (H n)) go_such go_h go_both
    joins = record {
      begins = λ n a t x b i. apart a t (and_left (p a) (go_g a t) i) (and_right (p a) (go_g a t) i) ((heads_present heads).begins n t x b);
      spells = λ n a t x w s i. apart a t (and_left (p a) (go_g a t) i) (and_right (p a) (go_g a t) i) (heads.spells n t x w s);
      after = λ v t i. i;
      over = λ n v t s i. absurd (heads.full n v.1 s);
    }

    abbrev left_part : Family T (A × Option B)
    left_part n = alone <$> G n

    abbrev right_part : Family T (A × Option B)
    right_part n = along <$> (such p (G n) >> present (H n))

    seen_contra : (k y rest : List T) → k ++ y ≡ rest → sees test rest ≡ false → (n : ℕ) (w : B) → (H n).spells k w → ⊥
    seen_contra [] y rest e u n w s = heads.full n w s
    seen_contra (t ∷ k) y rest e u n w s = not_both (heads.spells n t k w s) (ap (sees test) e ∙ u)

    goes_contra : (k y : List T) (a : A) → p a ≡ true → GoesOn go_g a (k ++ y) → (n : ℕ) (w : B) → (H n).spells k w → ⊥
    goes_contra [] y a s h n w b = heads.full n w b
    goes_contra (t ∷ k) y a s h n w b = apart a t s h (heads.spells n t k w b)

    seen_ends : (used x f k y rest : List T) → x ≡ f ++ k → f ≡ used → k ++ y ≡ rest → sees test rest ≡ false → (n : ℕ) → BeginsPresent (H n) k → Within used x
    seen_ends used x f [] y rest cut e r u n b = ([], sym (append-nil x ∙ (cut ∙ (append-nil f ∙ e))))
    seen_ends used x f (t ∷ k) y rest cut e r u n b = absurd (not_both ((heads_present heads).begins n t k b) (ap (sees test) r ∙ u))

    goes_ends : (used x f k y : List T) (a : A) → x ≡ f ++ k → Within used f → p a ≡ true → GoesOn go_g a (k ++ y) → (n : ℕ) → BeginsPresent (H n) k → Within used x
    goes_ends used x f [] y a cut w s h n b = subst (Within used) (sym (cut ∙ append-nil f)) w
    goes_ends used x f (t ∷ k) y a cut w s h n b = absurd (apart a t s h ((heads_present heads).begins n t k b))

    -- where the second part does not come next
    none_covers : (least : ℕ) (R : ℕ → Type 0) (S : A → Type 0) (ts used rest : List T) → Core G go_g least R S ts used rest → ((v : A) → S v → sees test rest ≡ false) → Covered right_part go R ts used
    none_covers least R S ts used rest c u = record {
      only = λ n q x y w e s. let b = s.part in elim (c.only n q b.front (b.back ++ y) s.value.0 (e ∙ (ap (λ l. l ++ y) b.cut ∙ append_assoc b.front b.back y)) b.first.part) [
        | same fe ye sv ↦ absurd (seen_contra b.back y rest ye (u s.value.0 sv) n s.value.1 b.second)
        | shorter within goes ↦ absurd (goes_contra b.back y s.value.0 b.first.such_a goes n s.value.1 b.second)
      ];
      ends = λ n q x y e bg. elim bg [
        | in_first b ↦ c.ends n q x y e b
        | in_second f k v cut s bk ↦ elim (c.only n q f (k ++ y) v (e ∙ (ap (λ l. l ++ y) cut ∙ append_assoc f k y)) s.part) [
          | same fe ye sv ↦ seen_ends used x f k y rest cut fe ye (u v sv) n bk
          | shorter within goes ↦ goes_ends used x f k y v cut within s.such_a goes n bk
        ]
      ];
    }

    pub tail_none : (least : ℕ) (ts rest : List T) (v : A) → Done G go_g least ts v rest → sees test rest ≡ false → Done (λ n. with_tail p (G n) (H n)) go least ts (v, None) rest
    tail_none least ts rest v g u = record {
      used = g.used;
      spells = λ n l. inl (record { value = v; made = refl; part = g.spells n l });
      core = core_left left_part right_part go least (λ n. Unit {0}) (λ w. w ≡ (v, None)) ts g.used rest
          (none_covers least (λ n. Unit {0}) (λ w. w ≡ v) ts g.used rest g.core (λ w e. u))
          (core_as alone G go_g go after_none least (λ n. Unit {0}) (λ w. w ≡ v) (λ w. w ≡ (v, None)) ts g.used rest (λ w e. ap alone e) g.core);
    }

    pub tail_stop : (least : ℕ) (ts : List T) (rule : Rule) (left : ℕ) → Stopped G go_g least ts rule left → Stopped (λ n. with_tail p (G n) (H n)) go least ts rule left
    tail_stop least ts rule left g = record {
      used = g.used;
      rest = g.rest;
      size = g.size;
      is = g.is;
      deep = deep_left left_part right_part go rule g.used g.rest (deep_as alone G go_g go after_none rule g.used g.rest g.deep);
      core = core_left left_part right_part go least (Reaches rule least) (λ w. ⊥) ts g.used g.rest
          (none_covers least (Reaches rule least) (λ w. ⊥) ts g.used g.rest g.core (λ w e. absurd e))
          (core_as alone G go_g go after_none least (Reaches rule least) (λ w. ⊥) (λ w. ⊥) ts g.used g.rest (λ w e. e) g.core);
    }

    goes_seen : (a : A) (y rest : List T) → p a ≡ true → y ≡ rest → sees test rest ≡ true → GoesOn go (a, None) y
    goes_seen a [] rest s e u = let h : false ≡ true = ap (sees test) e ∙ u in cc
    goes_seen a (t ∷ y) rest s e u = first a t s (ap (sees test) e ∙ u)

    some_covers : (least : ℕ) (R : ℕ → Type 0) (ts rest used : List T) (v : A) → p v ≡ true → sees test rest ≡ true → (g : Done G go_g least ts v rest) → Within used g.used → Covered left_part go R ts used
    some_covers least R ts rest used v s u g more = record {
      only = λ n q x y w e h. let P : A × Option B → Type 0 = λ z. GoesOn go z y in elim (g.core.only n tt x y h.value e h.part) [
        | same xe ye ve ↦ (subst (Within used) (sym xe) more, subst P (sym (h.made ∙ ap alone ve)) (goes_seen v y rest s ye u))
        | shorter within goes ↦ (within_trans used g.used x more within, subst P (sym h.made) (goes_none h.value y goes))
      ];
      ends = λ n q x y e b. within_trans used g.used x more (g.core.ends n tt x y e b);
    }

    reaches_least : (rule : Rule) (least : ℕ) → Reaches rule least least
    reaches_least rule least = λ e. refl

    begun_first : (least : ℕ) (ts rest : List T) (v : A) (g : Done G go_g least ts v rest) → (right_part least).begins g.used
    begun_first least ts rest v g = in_first (g.core.begins least (omega arith) g.used [] (sym (append-nil g.used)))

    abbrev with_second : A → Outcome T B → Outcome T (A × Option B)
    with_second v o = made along (followed (λ n. such p (G n)) (λ n. present (H n)) go_such go_h go_both joins v o)

    both_exact : (least : ℕ) (ts rest : List T) (v : A) (o : Outcome T B) → p v ≡ true → Done G go_g least ts v rest → Exact (λ n. present (H n)) go_h least rest o → Exact right_part go least ts (with_second v o)
    both_exact least ts rest v o s g h = exact_as along (λ n. such p (G n) >> present (H n)) go_both go (λ w t i. after_some w.0 w.1 t i) least ts (followed (λ n. such p (G n)) (λ n. present (H n)) go_such go_h go_both joins v o)
        (exact_both (λ n. such p (G n)) (λ n. present (H n)) go_such go_h go_both joins least ts rest v o (such_done least ts rest v s g) h)

    pub tail_some : (least : ℕ) (ts rest : List T) (v : A) (o : Outcome T B) → p v ≡ true → sees test rest ≡ true → Done G go_g least ts v rest → Exact (λ n. present (H n)) go_h least rest o → Exact (λ n. with_tail p (G n) (H n)) go least ts (with_second v o)
    tail_some least ts rest v (done b more) s u g h = let d = both_exact least ts rest v (done b more) s g h in record {
      used = d.used;
      spells = λ n l. inr (d.spells n l);
      core = core_right left_part right_part go least (λ n. Unit {0}) (λ w. w ≡ (v, Some b)) ts d.used more
          (some_covers least (λ n. Unit {0}) ts rest d.used v s u g (d.core.ends least tt g.used rest g.core.cut (begun_first least ts rest v g))) d.core;
    }
    tail_some least ts rest v (stop rule left) s u g h = let d = both_exact least ts rest v (stop rule left) s g h in record {
      used = d.used;
      rest = d.rest;
      size = d.size;
      is = d.is;
      deep = deep_right left_part right_part go rule d.used d.rest d.deep;
      core = core_right left_part right_part go least (Reaches rule least) (λ w. ⊥) ts d.used d.rest
          (some_covers least (Reaches rule least) ts rest d.used v s u g (d.core.ends least (reaches_least rule least) g.used rest g.core.cut (begun_first least ts rest v g))) d.core;
    }

    module _ (least : ℕ) (read : Reader T A) (second : Reader T B)
        (g : (ts : List T) → Exact G go_g least ts (read ts))
        (h : (ts : List T) → sees test ts ≡ true → Exact (λ n. present (H n)) go_h least ts (second ts))
        (stops : (ts rest : List T) (v : A) → read ts ≡ done v rest → sees test rest ≡ true → p v ≡ true) where
      tail_seen : (ts rest : List T) (v : A) → Done G go_g least ts v rest → read ts ≡ done v rest → (b : Bool) → sees test rest ≡ b → Exact (λ n. with_tail p (G n) (H n)) go least ts (if b then made along (made (λ w. (v, w)) (second rest)) else done (v, None) rest)
      tail_seen ts rest v d e true u = tail_some least ts rest v (second rest) (stops ts rest v e u) u d (h rest u)
      tail_seen ts rest v d e false u = tail_none least ts rest v d u

      tail_read : (ts : List T) (o : Outcome T A) → read ts ≡ o → Exact G go_g least ts o → Exact (λ n. with_tail p (G n) (H n)) go least ts (o >>= (λ v rest. if sees test rest then made along (made (λ w. (v, w)) (second rest)) else done (v, None) rest))
      tail_read ts (done v rest) e d = tail_seen ts rest v d e (sees test rest) refl
      tail_read ts (stop rule left) e d = tail_stop least ts rule left d

      -- the reader of a part with a tail is exact
      pub exact_tail : (ts : List T) → Exact (λ n. with_tail p (G n) (H n)) go least ts (tail_if test read second ts)
      exact_tail ts = tail_read ts (read ts) refl (g ts)

-- The reader of a part with a tail, in the form of the other steps.
module _ {T A B : Type 0} {G : Family T A} {H : Family T B} (p : A → Bool) (go_g : A → T → Bool) (go_h : B → T → Bool) (go : A × Option B → T → Bool) (test : T → Bool)
    (heads : Heads H test)
    (apart : (a : A) (t : T) → p a ≡ true → go_g a t ≡ true → test t ≡ true → ⊥)
    (after_none : (a : A) (t : T) → go_g a t ≡ true → go (a, None) t ≡ true)
    (first : (a : A) (t : T) → p a ≡ true → test t ≡ true → go (a, None) t ≡ true)
    (after_some : (a : A) (b : B) (t : T) → go_h b t ≡ true → go (a, Some b) t ≡ true)
    {least : ℕ} {read : Reader T A} {second : Reader T B}
  where
    pub exactly_tail : Exactly G go_g least read → ExactlyAt test (λ n. present (H n)) go_h least second → ((ts rest : List T) (v : A) → read ts ≡ done v rest → sees test rest ≡ true → p v ≡ true) → Exactly (λ n. with_tail p (G n) (H n)) go least (tail_if test read second)
    exactly_tail g h stops = record { at = λ ts. exact_tail G H p go_g go_h go test heads apart after_none first after_some least read second g.at h.at stops ts }
