-- One part and then another.
use Rattle.std.proofs.Common.{◌≡◌, ℕ, ◌+◌, ◌≤◌, Bool, IsTrue, List, [], ◌∷◌, ◌++◌, refl, sym, ◌∙◌, ap, subst, inl, inr, append_assoc, arith}
use Rattle.std.proofs.lemmas.List.{append-nil}
use Rattle.cx_base.specs.declared.rule.Rule.{Rule}
use Rattle.cx_grammar.specs.Language.{◌>>◌, in_first, in_second}
use Rattle.cx_grammar.specs.Exact.{Family, GoesOn, Within, same, shorter, Core, Deepens, Reaches, Done, Stopped, Outcome, done, stop, Exact}
use Rattle.cx_grammar.specs.Reading.{made}
use Rattle.cx_grammar.proofs.Lists.{splits}

pub append_within : {T : Type 0} (a b x : List T) → Within a x → Within (a ++ b) x
append_within a b x (d, e) = (d ++ b, ap (λ l. l ++ b) e ∙ append_assoc x d b)

pub pair_same : {A B : Type 0} (u : A × B) (v : A) (w : B) → u.0 ≡ v → u.1 ≡ w → u ≡ (v, w)
pair_same (a, b) v w p q = cc

-- The second part begins with a token of `starts`, which never goes on with the first; where the second part is empty, what goes on with the first goes on with both.
pub record Joins {T A B : Type 0} (G : Family T A) (H : Family T B) (go_g : A → T → Bool) (go_h : B → T → Bool) (go : A × B → T → Bool) : Type 0 where
  pub begins : (n : ℕ) (a : A) (t : T) (x : List T) → (H n).begins (t ∷ x) → IsTrue (go_g a t) → ⊥
  pub spells : (n : ℕ) (a : A) (t : T) (x : List T) (w : B) → (H n).spells (t ∷ x) w → IsTrue (go_g a t) → ⊥
  pub after : (v : A × B) (t : T) → IsTrue (go_h v.1 t) → IsTrue (go v t)
  pub over : (n : ℕ) (v : A × B) (t : T) → (H n).spells [] v.1 → IsTrue (go_g v.0 t) → IsTrue (go v t)

module _ {T A B : Type 0} (G : Family T A) (H : Family T B) (go_g : A → T → Bool) (go_h : B → T → Bool) (go : A × B → T → Bool)
    (j : Joins G H go_g go_h go)
  where
    goes_on : (v : A × B) (y : List T) → GoesOn go_h v.1 y → GoesOn go v y
    goes_on v [] h = h
    goes_on v (t ∷ y) h = j.after v t h

    goes_over : (n : ℕ) (v : A × B) (y : List T) → (H n).spells [] v.1 → GoesOn go_g v.0 y → GoesOn go v y
    goes_over n v [] s h = h
    goes_over n v (t ∷ y) s h = j.over n v t s h

    from_shorter : (n : ℕ) (a f k x y : List T) (w : A × B) → Within a f → x ≡ f ++ k → (H n).spells k w.1 → GoesOn go_g w.0 (k ++ y) → Within a x × GoesOn go w y
    from_shorter n a f [] x y w within cut s goes = (subst (Within a) (sym (cut ∙ append-nil f)) within, goes_over n w y s goes)
    from_shorter n a f (t ∷ k) x y w within cut s goes = absurd (j.spells n w.0 t k w.1 s goes)

    ends_shorter : (n : ℕ) (a f k x y : List T) (w : A) → Within a f → x ≡ f ++ k → (H n).begins k → GoesOn go_g w (k ++ y) → Within a x
    ends_shorter n a f [] x y w within cut s goes = subst (Within a) (sym (cut ∙ append-nil f)) within
    ends_shorter n a f (t ∷ k) x y w within cut s goes = absurd (j.begins n w t k s goes)

    within_both : (a b f k x : List T) → x ≡ f ++ k → f ≡ a → Within b k → Within (a ++ b) x
    within_both a b f k x cut e (d, be) = (d, ap (λ l. a ++ l) be ∙ (sym (append_assoc a k d) ∙ ap (λ l. l ++ d) (ap (λ l. l ++ k) (sym e) ∙ sym cut)))

    -- the first part was read, and the second part was read or stopped
    pub core_both : (least : ℕ) (R : ℕ → Type 0) (S : B → Type 0) (ts a r b rest : List T) (v : A)
        → Core G go_g least (λ n. Unit {0}) (λ w. w ≡ v) ts a r → ((n : ℕ) → least ≤ n → (G n).spells a v)
        → Core H go_h least R S r b rest
        → Core (λ n. G n >> H n) go least R (λ w. (w.0 ≡ v) × S w.1) ts (a ++ b) rest
    core_both least R S ts a r b rest v cg sg ch = record {
      cut = cg.cut ∙ (ap (λ l. a ++ l) ch.cut ∙ sym (append_assoc a b rest));
      begins = λ n p x y e. elim (splits x y a b (sym e)) [
        | inl (d, xe, be) ↦ in_second a d v xe (sg n p) (ch.begins n p d y be)
        | inr (d, ae, ye) ↦ in_first (cg.begins n p x d ae)
      ];
      only = λ n q x y w e s. elim (cg.only n tt s.front (s.back ++ y) w.0 (e ∙ (ap (λ l. l ++ y) s.cut ∙ append_assoc s.front s.back y)) s.first) [
        | same xe ye we ↦ elim (ch.only n q s.back y w.1 (sym ye) s.second) [
          | same xe2 ye2 we2 ↦ same (s.cut ∙ (ap (λ l. l ++ s.back) xe ∙ ap (λ l. a ++ l) xe2)) ye2 (we, we2)
          | shorter within goes ↦ shorter (within_both a b s.front s.back x s.cut xe within) (goes_on w y goes)
        ]
        | shorter within goes ↦ let p = from_shorter n a s.front s.back x y w within s.cut s.second goes in shorter (append_within a b x p.0) p.1
      ];
      ends = λ n q x y e bg. elim bg [
        | in_first b1 ↦ append_within a b x (cg.ends n tt x y e b1)
        | in_second front back w cut s bk ↦ elim (cg.only n tt front (back ++ y) w (e ∙ (ap (λ l. l ++ y) cut ∙ append_assoc front back y)) s) [
          | same xe ye we ↦ within_both a b front back x cut xe (ch.ends n q back y (sym ye) bk)
          | shorter within goes ↦ append_within a b x (ends_shorter n a front back x y w within cut bk goes)
        ]
      ];
    }

    -- the first part stopped
    pub core_stop : (least : ℕ) (R : ℕ → Type 0) (ts a rest : List T)
        → Core G go_g least R (λ w. ⊥) ts a rest
        → Core (λ n. G n >> H n) go least R (λ w. ⊥) ts a rest
    core_stop least R ts a rest cg = record {
      cut = cg.cut;
      begins = λ n p x y e. in_first (cg.begins n p x y e);
      only = λ n q x y w e s. elim (cg.only n q s.front (s.back ++ y) w.0 (e ∙ (ap (λ l. l ++ y) s.cut ∙ append_assoc s.front s.back y)) s.first) [
        | same xe ye we ↦ absurd we
        | shorter within goes ↦ let p = from_shorter n a s.front s.back x y w within s.cut s.second goes in shorter p.0 p.1
      ];
      ends = λ n q x y e bg. elim bg [
        | in_first b1 ↦ cg.ends n q x y e b1
        | in_second front back w cut s bk ↦ elim (cg.only n q front (back ++ y) w (e ∙ (ap (λ l. l ++ y) cut ∙ append_assoc front back y)) s) [
          | same xe ye we ↦ absurd we
          | shorter within goes ↦ ends_shorter n a front back x y w within cut bk goes
        ]
      ];
    }

    deep_first : (rule : Rule) (a rest : List T) → Deepens rule G a rest → Deepens rule (λ n. G n >> H n) a rest
    deep_first rule a rest deep = λ e. let d = deep e in record { token = d.token; after = d.after; is = d.is; enough = d.enough; begins = λ n p. in_first (d.begins n p) }

    deep_second : (rule : Rule) (least : ℕ) (a b rest : List T) (v : A) → ((n : ℕ) → least ≤ n → (G n).spells a v) → Deepens rule H b rest → Deepens rule (λ n. G n >> H n) (a ++ b) rest
    deep_second rule least a b rest v s deep = λ e. let d = deep e in record {
      token = d.token;
      after = d.after;
      is = d.is;
      enough = least + d.enough;
      begins = λ n p. let q : least ≤ n = omega arith in let r : d.enough ≤ n = omega arith in
          in_second a (b ++ d.token ∷ []) v (append_assoc a b (d.token ∷ [])) (s n q) (d.begins n r);
    }

    pub both_stop : (least : ℕ) (ts : List T) (rule : Rule) (left : ℕ) → Stopped G go_g least ts rule left → Stopped (λ n. G n >> H n) go least ts rule left
    both_stop least ts rule left s = record { used = s.used; rest = s.rest; core = core_stop least (Reaches rule least) ts s.used s.rest s.core; size = s.size; is = s.is; deep = deep_first rule s.used s.rest s.deep }

    -- what the code does after the first part
    abbrev pub followed : A → Outcome T B → Outcome T (A × B)
    followed a o = made (λ b. (a, b)) o

    pub exact_both : (least : ℕ) (ts rest : List T) (v : A) (o : Outcome T B) → Done G go_g least ts v rest → Exact H go_h least rest o → Exact (λ n. G n >> H n) go least ts (followed v o)
    exact_both least ts rest v (done w more) g h =
        record {
          used = g.used ++ h.used;
          core = let c = core_both least (λ n. Unit {0}) (λ u. u ≡ w) ts g.used rest h.used more v g.core g.spells h.core in record {
            cut = c.cut;
            begins = c.begins;
            ends = c.ends;
            only = λ n q x y u e s. elim (c.only n q x y u e s) [ same a b d ↦ same a b (pair_same u v w d.0 d.1) | shorter a b ↦ shorter a b ];
          };
          spells = λ n p. record { front = g.used; back = h.used; cut = refl; first = g.spells n p; second = h.spells n p };
        }
    exact_both least ts rest v (stop rule left) g h =
        record {
          used = g.used ++ h.used;
          rest = h.rest;
          size = h.size;
          is = h.is;
          core = let c = core_both least (Reaches rule least) (λ u. ⊥) ts g.used rest h.used h.rest v g.core g.spells h.core in record {
            cut = c.cut;
            begins = c.begins;
            ends = c.ends;
            only = λ n q x y u e s. elim (c.only n q x y u e s) [ same a b d ↦ absurd d.1 | shorter a b ↦ shorter a b ];
          };
          deep = deep_second rule least g.used h.used h.rest v g.spells h.deep;
        }
