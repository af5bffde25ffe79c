-- Side conditions and measures: on a part's value, on its own tokens, and what its own tokens give.
use Rattle.std.proofs.Common.{◌≡◌, ℕ, zero, suc, ◌-◌, Bool, true, false, if◌then◌else◌, List, [], ◌∷◌, ◌++◌, length, take, refl, sym, ◌∙◌, ap, inl, arith, length-append}
use Rattle.cx_base.specs.declared.rule.Rule.TheVariants.{Syntax}
use Rattle.cx_grammar.specs.Language.{such, measured}
use Rattle.cx_grammar.specs.Exact.{Family, GoesOn, Within, same, shorter, Core, Done, Stopped, Outcome, done, stop, Exact}
use Rattle.cx_grammar.specs.Reading.{Reader, refuse, such_of, taken, measured_by, ◌>>=◌}
use Rattle.cx_grammar.proofs.Parts.{not_nesting}
use Rattle.cx_grammar.specs.Sets.{by}
use Rattle.cx_grammar.proofs.Heads.{not_both}
use Rattle.cx_grammar.proofs.Steps.{Exactly}

-- ---- a part whose value is such: else the next token is the fault

module _ {T A : Type 0} (p : A → Bool) (G : Family T A) (go : A → T → Bool) (least : ℕ) where
  such_done : (ts rest : List T) (v : A) → p v ≡ true → Done G go least ts v rest → Done (λ n. such p (G n)) go least ts v rest
  such_done ts rest v s g = record {
    used = g.used;
    spells = λ n l. record { part = g.spells n l; such_a = s };
    core = record { cut = g.core.cut; begins = g.core.begins; ends = g.core.ends; only = λ n q x y w e h. g.core.only n q x y w e h.part };
  }

  such_only : (ts used rest : List T) (v : A) → p v ≡ false → Core G go least (λ n. Unit {0}) (λ w. w ≡ v) ts used rest → (n : ℕ) (x y : List T) (w : A) → ts ≡ x ++ y → (such p (G n)).spells x w → Within used x × GoesOn go w y
  such_only ts used rest v s c n x y w e h = elim (c.only n tt x y w e h.part) [
    | same a b d ↦ absurd (not_both h.such_a (ap p d ∙ s))
    | shorter a b ↦ (a, b)
  ]

  such_not : (ts rest : List T) (v : A) → p v ≡ false → Done G go least ts v rest → Stopped (λ n. such p (G n)) go least ts Syntax (length rest)
  such_not ts rest v s g = record {
    used = g.used;
    rest = rest;
    size = refl;
    is = inl refl;
    deep = λ e. absurd (not_nesting e);
    core = record {
      cut = g.core.cut;
      begins = g.core.begins;
      ends = λ n q x y e b. g.core.ends n tt x y e b;
      only = λ n q x y w e h. let k = such_only ts g.used rest v s g.core n x y w e h in shorter k.0 k.1;
    };
  }

  such_by : (ts rest : List T) (v : A) (b : Bool) → p v ≡ b → Done G go least ts v rest → Exact (λ n. such p (G n)) go least ts (if b then done v rest else refuse rest)
  such_by ts rest v true s g = such_done ts rest v s g
  such_by ts rest v false s g = such_not ts rest v s g

  such_read : (ts : List T) (o : Outcome T A) → Exact G go least ts o → Exact (λ n. such p (G n)) go least ts (o >>= (λ v rest. if p v then done v rest else refuse rest))
  such_read ts (done v rest) g = such_by ts rest v (p v) refl g
  such_read ts (stop rule left) g = record {
    used = g.used;
    rest = g.rest;
    size = g.size;
    is = g.is;
    deep = λ e. let d = g.deep e in record { token = d.token; after = d.after; is = d.is; enough = d.enough; begins = d.begins };
    core = record { cut = g.core.cut; begins = g.core.begins; ends = g.core.ends; only = λ n q x y w e h. g.core.only n q x y w e h.part };
  }

pub exactly_such : {T A : Type 0} {G : Family T A} {go : A → T → Bool} {least : ℕ} {read : Reader T A} (p : A → Bool) → Exactly G go least read → Exactly (λ n. such p (G n)) go least (such_of p read)
exactly_such {G = G} {go = go} {least = least} {read = read} p g = record { at = λ ts. such_read p G go least ts (read ts) (g.at ts) }

-- ---- what a part's own tokens give

take_front : {T : Type 0} (used rest : List T) (n : ℕ) → n ≡ length used → take n (used ++ rest) ≡ used
take_front [] rest zero e = refl
take_front [] rest (suc n) e = absurd (omega arith)
take_front (t ∷ used) rest zero e = let l = length-append (t ∷ []) used in absurd (omega arith)
take_front (t ∷ used) rest (suc n) e = let l = length-append (t ∷ []) used in let m : n ≡ length used = omega arith in ap (λ x. t ∷ x) (take_front used rest n m)

pub taken_is : {T : Type 0} (ts used rest : List T) → ts ≡ used ++ rest → taken ts rest ≡ used
taken_is ts used rest e = let l : length ts ≡ length (used ++ rest) = ap length e in let k = length-append used rest in let m : length ts - length rest ≡ length used = omega arith in
    ap (λ x. take (length ts - length rest) x) e ∙ take_front used rest (length ts - length rest) m

module _ {T A M : Type 0} (f : List T → M) (G : Family T A) (go : A → T → Bool) (least : ℕ) where
  abbrev go_measured : A × M → T → Bool
  go_measured w t = go w.0 t

  goes_measured : (w : A × M) (y : List T) → GoesOn go w.0 y → GoesOn go_measured w y
  goes_measured w [] h = h
  goes_measured w (t ∷ y) h = h

  pair_is : (w : A × M) (v : A) (x used : List T) → w.0 ≡ v → w.1 ≡ f x → x ≡ used → w ≡ (v, f used)
  pair_is (a, m) v x used p q r = let s : m ≡ f used = q ∙ ap f r in cc

  measured_read : (ts : List T) (o : Outcome T A) → Exact G go least ts o → Exact (λ n. measured f (G n)) go_measured least ts (o >>= (λ v rest. done (v, f (taken ts rest)) rest))
  measured_read ts (done v rest) g = let is = taken_is ts g.used rest g.core.cut in record {
    used = g.used;
    spells = λ n l. record { part = g.spells n l; measure = ap f is };
    core = record {
      cut = g.core.cut;
      begins = g.core.begins;
      ends = g.core.ends;
      only = λ n q x y w e h. elim (g.core.only n q x y w.0 e h.part) [
        | same a b c ↦ same a b (pair_is w v x (taken ts rest) c h.measure (a ∙ sym is))
        | shorter a b ↦ shorter a (goes_measured w y b)
      ];
    };
  }
  measured_read ts (stop rule left) g = record {
    used = g.used;
    rest = g.rest;
    size = g.size;
    is = g.is;
    deep = λ e. let d = g.deep e in record { token = d.token; after = d.after; is = d.is; enough = d.enough; begins = d.begins };
    core = record {
      cut = g.core.cut;
      begins = g.core.begins;
      ends = g.core.ends;
      only = λ n q x y w e h. elim (g.core.only n q x y w.0 e h.part) [ same a b c ↦ absurd c | shorter a b ↦ shorter a (goes_measured w y b) ];
    };
  }

pub exactly_measured : {T A M : Type 0} {G : Family T A} {q : T → Bool} {least : ℕ} {read : Reader T A} (f : List T → M) → Exactly G (by q) least read → Exactly (λ n. measured f (G n)) (by q) least (measured_by f read)
exactly_measured {G = G} {q = q} {least = least} {read = read} f g = record { at = λ ts. measured_read f G (λ v t. q t) least ts (read ts) (g.at ts) }
