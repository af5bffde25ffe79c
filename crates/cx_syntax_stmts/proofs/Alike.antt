-- Two alternatives that begin with the same part: `f a b | g a c` is one part, and then `b | c`. Each is measured as a whole.
use Rattle.std.proofs.Common.{◌≡◌, ℕ, Bool, true, ◌&&◌, List, [], refl, sym, ◌∙◌, ap, subst, inl, inr}
use Rattle.cx_grammar.specs.Language.{◌>>◌, ◌<$>◌, ◌∥◌, measured, in_first, in_second, none_yet, some}
use Rattle.cx_grammar.specs.Exact.{Family}
use Rattle.cx_grammar.proofs.Parts.{Same}

and_true : (b c : Bool) → b ≡ true → c ≡ true → (b && c) ≡ true
and_true b c e f = ap (λ v. v && c) e ∙ f

module _ {T P B C MadeB MadeC D E M : Type 0} (f : List T → M) (A : Family T P) (X : Family T B) (Y : Family T C)
    (made1 : (P × B) × M → MadeB) (out1 : MadeB → D) (made2 : (P × C) × M → MadeC) (out2 : MadeC → D) (in1 : B → E) (in2 : C → E) (join : (P × E) × M → D)
    (join1 : (p : P) (b : B) (m : M) → join ((p, in1 b), m) ≡ out1 (made1 ((p, b), m))) (join2 : (p : P) (c : C) (m : M) → join ((p, in2 c), m) ≡ out2 (made2 ((p, c), m)))
    (stays_a : (n : ℕ) → (A n).stays ≡ true) (stays_x : (n : ℕ) → (X n).stays ≡ true) (stays_y : (n : ℕ) → (Y n).stays ≡ true)
    (blank_a : (n : ℕ) → (A n).begins []) (blank_x : (n : ℕ) → (X n).begins []) (blank_y : (n : ℕ) → (Y n).begins [])
  where
    abbrev pub two : Family T D
    two n = (out1 <$> (made1 <$> measured f (A n >> X n))) ∥ (out2 <$> (made2 <$> measured f (A n >> Y n)))

    abbrev pub one_part : Family T D
    one_part n = join <$> measured f (A n >> ((in1 <$> X n) ∥ (in2 <$> Y n)))

    joined1 : (u : (P × E) × M) (b : B) → u.0.1 ≡ in1 b → join u ≡ out1 (made1 ((u.0.0, b), u.1))
    joined1 ((p, e), m) b i = ap (λ z. join ((p, z), m)) i ∙ join1 p b m

    joined2 : (u : (P × E) × M) (c : C) → u.0.1 ≡ in2 c → join u ≡ out2 (made2 ((u.0.0, c), u.1))
    joined2 ((p, e), m) c i = ap (λ z. join ((p, z), m)) i ∙ join2 p c m

    made_is1 : (u : (P × B) × M) → out1 (made1 u) ≡ join ((u.0.0, in1 u.0.1), u.1)
    made_is1 ((p, b), m) = sym (join1 p b m)

    made_is2 : (u : (P × C) × M) → out2 (made2 u) ≡ join ((u.0.0, in2 u.0.1), u.1)
    made_is2 ((p, c), m) = sym (join2 p c m)

    to_spells : (n : ℕ) (x : List T) (w : D) → (two n).spells x w → (one_part n).spells x w
    to_spells n x w (inl s) = let u = s.part.value in let m = s.part.part in let b = m.part in record {
      value = ((u.0.0, in1 u.0.1), u.1);
      made = s.made ∙ (ap out1 s.part.made ∙ made_is1 u);
      part = record { part = record { front = b.front; back = b.back; cut = b.cut; first = b.first; second = inl (record { value = u.0.1; made = refl; part = b.second }) }; measure = m.measure };
    }
    to_spells n x w (inr s) = let u = s.part.value in let m = s.part.part in let b = m.part in record {
      value = ((u.0.0, in2 u.0.1), u.1);
      made = s.made ∙ (ap out2 s.part.made ∙ made_is2 u);
      part = record { part = record { front = b.front; back = b.back; cut = b.cut; first = b.first; second = inr (record { value = u.0.1; made = refl; part = b.second }) }; measure = m.measure };
    }

    from_spells : (n : ℕ) (x : List T) (w : D) → (one_part n).spells x w → (two n).spells x w
    from_spells n x w s = let u = s.value in let m = s.part in let b = m.part in elim b.second [
      | inl a ↦ inl (record {
        value = made1 ((u.0.0, a.value), u.1);
        made = s.made ∙ joined1 u a.value a.made;
        part = record { value = ((u.0.0, a.value), u.1); made = refl; part = record { part = record { front = b.front; back = b.back; cut = b.cut; first = b.first; second = a.part }; measure = m.measure } };
      })
      | inr a ↦ inr (record {
        value = made2 ((u.0.0, a.value), u.1);
        made = s.made ∙ joined2 u a.value a.made;
        part = record { value = ((u.0.0, a.value), u.1); made = refl; part = record { part = record { front = b.front; back = b.back; cut = b.cut; first = b.first; second = a.part }; measure = m.measure } };
      })
    ]

    stays1 : (n : ℕ) → ((A n).stays && (X n).stays) ≡ true
    stays1 n = and_true (A n).stays (X n).stays (stays_a n) (stays_x n)

    stays2 : (n : ℕ) → ((A n).stays && (Y n).stays) ≡ true
    stays2 n = and_true (A n).stays (Y n).stays (stays_a n) (stays_y n)

    to_begins : (n : ℕ) (x : List T) → (two n).begins x → (one_part n).begins x
    to_begins n x (inl (none_yet e)) = in_first (subst (λ (l : List T). (A n).begins l) (sym e) (blank_a n))
    to_begins n x (inr (none_yet e)) = in_first (subst (λ (l : List T). (A n).begins l) (sym e) (blank_a n))
    to_begins n x (inl (some st (in_first b))) = in_first b
    to_begins n x (inr (some st (in_first b))) = in_first b
    to_begins n x (inl (some st (in_second g k v cut s b))) = in_second g k v cut s (inl (some (stays_x n) b))
    to_begins n x (inr (some st (in_second g k v cut s b))) = in_second g k v cut s (inr (some (stays_y n) b))

    from_begins : (n : ℕ) (x : List T) → (one_part n).begins x → (two n).begins x
    from_begins n x (in_first b) = inl (some (stays1 n) (in_first b))
    from_begins n x (in_second g k v cut s (inl (some st b))) = inl (some (stays1 n) (in_second g k v cut s b))
    from_begins n x (in_second g k v cut s (inr (some st b))) = inr (some (stays2 n) (in_second g k v cut s b))
    from_begins n x (in_second g k v cut s (inl (none_yet e))) = inl (some (stays1 n) (in_second g k v cut s (subst (λ (l : List T). (X n).begins l) (sym e) (blank_x n))))
    from_begins n x (in_second g k v cut s (inr (none_yet e))) = inr (some (stays2 n) (in_second g k v cut s (subst (λ (l : List T). (Y n).begins l) (sym e) (blank_y n))))

    pub alike : Same one_part two
    alike = record { spells = from_spells; spelled = to_spells; begins = from_begins; begun = to_begins }
