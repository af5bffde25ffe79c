-- A part whose own tokens are not to pass a test.
use Rattle.std.proofs.Common.{◌≡◌, ℕ, ◌≤◌, ◌<◌, ◌+◌, Bool, true, false, if◌then◌else◌, List, [], ◌∷◌, ◌++◌, length, nat_le, Option, Some, None, refl, sym, ◌∙◌, ap, inl, inr, append_assoc, arith, length-append}
use Rattle.std.proofs.lemmas.List.{append-nil}
use Rattle.std.proofs.lemmas.Bool.Decides.{nat_tests}
use Rattle.cx_base.specs.declared.rule.Rule.{Rule}
use Rattle.cx_base.specs.declared.rule.Rule.TheVariants.{Syntax, Nesting}
use Rattle.cx_grammar.specs.Language.{unless}
use Rattle.cx_grammar.specs.Exact.{Family, Within, same, shorter, Core, Reaches, Done, Stopped, Outcome, done, stop, Exact}
use Rattle.cx_grammar.specs.Reading.{Reader, refused_at, unless_at}
use Rattle.cx_grammar.proofs.Lists.{splits}
use Rattle.cx_grammar.proofs.Parts.{not_nesting}
use Rattle.cx_grammar.proofs.Heads.{not_both}
use Rattle.cx_grammar.proofs.Steps.{Exactly}

-- ---- fronts of one list

no_length : {T : Type 0} (d : List T) → length d ≡ 0 → d ≡ []
no_length [] e = refl
no_length (t ∷ d) e = let l = length-append (t ∷ []) d in absurd (omega arith)

-- the front with more tokens behind it is a front of the other
pub front_by : {T : Type 0} (x y a b : List T) → x ++ y ≡ a ++ b → length b ≤ length y → Within a x
front_by x y a b e l = elim (splits x y a b e) [
  | inr (d, p, q) ↦ (d, p)
  | inl (d, p, q) ↦ let m : length b ≡ length (d ++ y) = ap length q in let k = length-append d y in let none : length d ≡ 0 = omega arith in let nil : d ≡ [] = no_length d none in
      ([], sym (append-nil x ∙ (p ∙ (ap (λ z. a ++ z) nil ∙ append-nil a))))
]

pub within_trans : {T : Type 0} (a b c : List T) → Within a b → Within b c → Within a c
within_trans a b c (d, e) (f, h) = (f ++ d, e ∙ (ap (λ l. l ++ d) h ∙ append_assoc c f d))

-- ---- the test

-- a test that stays passed when more tokens follow
pub record Stable {T : Type 0} (test : List T → Bool) : Type 0 where
  pub more : (x y : List T) → test x ≡ true → test (x ++ y) ≡ true

-- the first token with which the tokens pass the test
pub record First {T : Type 0} (test : List T → Bool) (ts : List T) (left : ℕ) : Type 0 where
  pub before : List T
  pub token : T
  pub after : List T
  pub cut : ts ≡ before ++ token ∷ after
  pub size : length (token ∷ after) ≡ left
  pub clear : test before ≡ false
  pub passed : test (before ++ token ∷ []) ≡ true

-- `refusal` gives how many tokens there are from that token on, if there is one
pub record Refuses {T : Type 0} (test : List T → Bool) (refusal : List T → Option ℕ) : Type 0 where
  pub stable : Stable test
  pub found : (ts : List T) (left : ℕ) → refusal ts ≡ Some left → First test ts left
  pub clear : (ts : List T) → refusal ts ≡ None → test ts ≡ false

module _ {T : Type 0} (test : List T → Bool) (s : Stable test) where
  clear_by : (b : Bool) (z d x : List T) → test z ≡ b → x ≡ z ++ d → test x ≡ false → test z ≡ false
  clear_by true z d x p e c = absurd (not_both (ap test e ∙ s.more z d p) c)
  clear_by false z d x p e c = p

  pub clear_front : (z d x : List T) → x ≡ z ++ d → test x ≡ false → test z ≡ false
  clear_front z d x e c = clear_by (test z) z d x refl e c

  beyond_by : (x : List T) (t : T) (z d y r : List T) → z ≡ x ++ d → t ∷ r ≡ d ++ y → test (x ++ t ∷ []) ≡ true → test z ≡ false → Within x z
  beyond_by x t z [] y r e k p c = ([], sym (append-nil z ∙ (e ∙ append-nil x)))
  beyond_by x t z (u ∷ d) y r e k p c = let same_token : t ≡ u = cc in
      let longer : z ≡ (x ++ t ∷ []) ++ d = e ∙ (ap (λ v. x ++ v ∷ d) (sym same_token) ∙ sym (append_assoc x (t ∷ []) d)) in
      absurd (not_both (ap test longer ∙ s.more (x ++ t ∷ []) d p) c)

  -- a front that does not pass the test goes no further than what is before the first token with which it does
  pub beyond : (x : List T) (t : T) (r z y : List T) → x ++ t ∷ r ≡ z ++ y → test (x ++ t ∷ []) ≡ true → test z ≡ false → Within x z
  beyond x t r z y e p c = elim (splits x (t ∷ r) z y e) [ inl (d, a, b) ↦ (d, a) | inr (d, a, b) ↦ beyond_by x t z d y r a b p c ]

  module _ {A : Type 0} (G : Family T A) (go : A → T → Bool) (least : ℕ) where
    abbrev clearly : Family T A
    clearly n = unless test (G n)

    -- ---- what was read does not pass it

    core_clear : (R : ℕ → Type 0) (S : A → Type 0) (ts used rest : List T) → test used ≡ false → Core G go least R S ts used rest → Core clearly go least R S ts used rest
    core_clear R S ts used rest c g = record {
      cut = g.cut;
      begins = λ n p x y e. record { part = g.begins n p x y e; clear = clear_front x y used e c };
      only = λ n q x y w e h. g.only n q x y w e h.part;
      ends = λ n q x y e b. g.ends n q x y e b.part;
    }

    done_clear : (ts rest : List T) (v : A) (g : Done G go least ts v rest) → test g.used ≡ false → Done clearly go least ts v rest
    done_clear ts rest v g c = record { used = g.used; spells = λ n l. record { part = g.spells n l; clear = c }; core = core_clear (λ n. Unit {0}) (λ w. w ≡ v) ts g.used rest c g.core }

    stop_clear : (ts : List T) (rule : Rule) (left : ℕ) (g : Stopped G go least ts rule left) → test g.used ≡ false → ((t : T) (r : List T) → g.rest ≡ t ∷ r → test (g.used ++ t ∷ []) ≡ false) → Stopped clearly go least ts rule left
    stop_clear ts rule left g c next = record {
      used = g.used;
      rest = g.rest;
      size = g.size;
      is = g.is;
      core = core_clear (Reaches rule least) (λ w. ⊥) ts g.used g.rest c g.core;
      deep = λ e. let d = g.deep e in record { token = d.token; after = d.after; is = d.is; enough = d.enough; begins = λ n p. record { part = d.begins n p; clear = next d.token d.after d.is } };
    }

    -- ---- what was read, or a front of it, passes it

    module _ (ts : List T) (left : ℕ) (f : First test ts left) where
      refused_core : (S : A → Type 0) (used rest : List T) → Core G go least (λ n. Unit {0}) S ts used rest → Within used f.before → ((w : A) → S w → length f.before < length used) → Stopped clearly go least ts Syntax left
      refused_core S used rest g within longer = record {
        used = f.before;
        rest = f.token ∷ f.after;
        size = f.size;
        is = inl refl;
        deep = λ e. absurd (not_nesting e);
        core = record {
          cut = f.cut;
          begins = λ n p x y e. record { part = g.begins n p x (y ++ within.0) (within.1 ∙ (ap (λ l. l ++ within.0) e ∙ append_assoc x y within.0)); clear = clear_front x y f.before e f.clear };
          only = λ n q x y w e h. let near = beyond f.before f.token f.after x y (sym f.cut ∙ e) f.passed h.clear in elim (g.only n tt x y w e h.part) [
            | same a b c ↦ let long = longer w c in let l : length f.before ≡ length (x ++ near.0) = ap length near.1 in let k = length-append x near.0 in let m : length x ≡ length used = ap length a in absurd (omega arith)
            | shorter a b ↦ shorter near b
          ];
          ends = λ n q x y e b. beyond f.before f.token f.after x y (sym f.cut ∙ e) f.passed b.clear;
        };
      }

      sizes : (used rest : List T) → ts ≡ used ++ rest → length used + length rest ≡ length f.before + left
      sizes used rest e = let a : length ts ≡ length (used ++ rest) = ap length e in let b = length-append used rest in let c : length ts ≡ length (f.before ++ f.token ∷ f.after) = ap length f.cut in let d = length-append f.before (f.token ∷ f.after) in let k = f.size in omega arith

      done_refused : (rest : List T) (v : A) (g : Done G go least ts v rest) → length rest < left → Stopped clearly go least ts Syntax left
      done_refused rest v g l = let k = sizes g.used rest g.core.cut in let size = f.size in let m : length rest ≤ length (f.token ∷ f.after) = omega arith in let long : length f.before < length g.used = omega arith in
          refused_core (λ w. w ≡ v) g.used rest g.core (front_by f.before (f.token ∷ f.after) g.used rest (sym f.cut ∙ g.core.cut) m) (λ w e. long)

      stop_refused : (rule : Rule) (l : ℕ) (g : Stopped G go least ts rule l) → l ≤ left → (rule ≡ Nesting → ⊥) → Stopped clearly go least ts Syntax left
      stop_refused rule l g fits other_rule = let size = f.size in let size2 = g.size in let m : length g.rest ≤ length (f.token ∷ f.after) = omega arith in
          refused_core (λ w. ⊥) g.used g.rest (record { cut = g.core.cut; begins = g.core.begins; only = λ n q. g.core.only n (λ e. absurd (other_rule e)); ends = λ n q. g.core.ends n (λ e. absurd (other_rule e)) })
          (front_by f.before (f.token ∷ f.after) g.used g.rest (sym f.cut ∙ g.core.cut) m) (λ w c. absurd c)

      done_before : (rest : List T) (v : A) (g : Done G go least ts v rest) → left ≤ length rest → Done clearly go least ts v rest
      done_before rest v g l = let size = f.size in let m : length (f.token ∷ f.after) ≤ length rest = omega arith in let near = front_by g.used rest f.before (f.token ∷ f.after) (sym g.core.cut ∙ f.cut) m in
          done_clear ts rest v g (clear_front g.used near.0 f.before near.1 f.clear)

      stop_before : (rule : Rule) (l : ℕ) (g : Stopped G go least ts rule l) → left < l → Stopped clearly go least ts rule l
      stop_before rule l g less = let size = f.size in let size2 = g.size in let m : length (f.token ∷ f.after) ≤ length g.rest = omega arith in let near = front_by g.used g.rest f.before (f.token ∷ f.after) (sym g.core.cut ∙ f.cut) m in
          stop_clear ts rule l g (clear_front g.used near.0 f.before near.1 f.clear)
          (λ t r e. let k : length g.rest ≡ length (t ∷ r) = ap length e in let k2 = length-append (t ∷ []) r in let m2 : length (f.token ∷ f.after) ≤ length r = omega arith in
          let next = front_by (g.used ++ t ∷ []) r f.before (f.token ∷ f.after) (append_assoc g.used (t ∷ []) r ∙ (ap (λ l. g.used ++ l) (sym e) ∙ (sym g.core.cut ∙ f.cut))) m2 in
          clear_front (g.used ++ t ∷ []) next.0 f.before next.1 f.clear)

      by_done : (rest : List T) (v : A) → Done G go least ts v rest → (b : Bool) → nat_le left (length rest) ≡ b → Exact clearly go least ts (if b then done v rest else stop Syntax left)
      by_done rest v g true e = done_before rest v g (grind (arith, nat_tests))
      by_done rest v g false e = done_refused rest v g (grind (arith, nat_tests))

      by_stop : (rule : Rule) (l : ℕ) → Stopped G go least ts rule l → (l ≤ left → rule ≡ Nesting → ⊥) → (b : Bool) → nat_le l left ≡ b → Exact clearly go least ts (if b then stop Syntax left else stop rule l)
      by_stop rule l g other_rule true e = let fits : l ≤ left = grind (arith, nat_tests) in stop_refused rule l g fits (other_rule fits)
      by_stop rule l g other_rule false e = stop_before rule l g (grind (arith, nat_tests))

-- A fault of nesting comes behind the refused token. (Before it or at it, the rule would depend on the levels.)
pub record Behind {T A : Type 0} (refusal : List T → Option ℕ) (read : Reader T A) : Type 0 where
  pub behind : (ts : List T) (left l : ℕ) → refusal ts ≡ Some left → read ts ≡ stop Nesting l → l ≤ left → ⊥

module _ {T A : Type 0} (test : List T → Bool) (refusal : List T → Option ℕ) (read : Reader T A) (f : Refuses test refusal) (b : Behind refusal read) (G : Family T A) (go : A → T → Bool) (least : ℕ) where
  none_refused : (ts : List T) (o : Outcome T A) → refusal ts ≡ None → Exact G go least ts o → Exact (λ n. unless test (G n)) go least ts o
  none_refused ts (done v rest) e g = done_clear test f.stable G go least ts rest v g (clear_front test f.stable g.used rest ts g.core.cut (f.clear ts e))
  none_refused ts (stop rule left) e g = stop_clear test f.stable G go least ts rule left g (clear_front test f.stable g.used g.rest ts g.core.cut (f.clear ts e))
      (λ t r k. clear_front test f.stable (g.used ++ t ∷ []) r ts (g.core.cut ∙ (ap (λ l. g.used ++ l) k ∙ sym (append_assoc g.used (t ∷ []) r))) (f.clear ts e))

  some_refused : (ts : List T) (left : ℕ) (o : Outcome T A) → refusal ts ≡ Some left → read ts ≡ o → Exact G go least ts o → Exact (λ n. unless test (G n)) go least ts (refused_at (Some left) o)
  some_refused ts left (done v rest) e k g = by_done test f.stable G go least ts left (f.found ts left e) rest v g (nat_le left (length rest)) refl
  some_refused ts left (stop rule l) e k g = by_stop test f.stable G go least ts left (f.found ts left e) rule l g
      (λ fits nesting. b.behind ts left l e (k ∙ ap (λ (q : Rule). stop q l) nesting) fits) (nat_le l left) refl

  unless_read : (ts : List T) (r : Option ℕ) → refusal ts ≡ r → Exact G go least ts (read ts) → Exact (λ n. unless test (G n)) go least ts (refused_at r (read ts))
  unless_read ts None e g = none_refused ts (read ts) e g
  unless_read ts (Some left) e g = some_refused ts left (read ts) e refl g

  pub exactly_unless : Exactly G go least read → Exactly (λ n. unless test (G n)) go least (unless_at refusal read)
  exactly_unless g = record { at = λ ts. unless_read ts (refusal ts) refl (g.at ts) }
