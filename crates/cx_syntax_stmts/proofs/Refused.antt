-- A part whose own tokens are not to pass a test, where it is known before it is read whether they do.
use Rattle.std.proofs.Common.{◌≡◌, ℕ, ◌≤◌, Bool, true, false, List, [], ◌∷◌, ◌++◌, refl, sym, ◌∙◌, ap, inl, inr, append_assoc, arith}
use Rattle.std.proofs.lemmas.List.{append-nil}
use Rattle.cx_base.specs.declared.rule.Rule.TheVariants.{Syntax}
use Rattle.cx_grammar.specs.Language.{unless}
use Rattle.cx_grammar.specs.Exact.{Family, GoesOn, Within, shorter, Core, Reaches, Outcome, done, stop, Exact}
use Rattle.cx_grammar.specs.Reading.{Reader}
use Rattle.cx_grammar.proofs.Lists.{splits}
use Rattle.cx_grammar.proofs.Parts.{not_nesting}
use Rattle.cx_grammar.proofs.Heads.{not_both}
use Rattle.cx_grammar.proofs.Steps.{Exactly}
use Rattle.cx_grammar.proofs.Unless.{Stable, First}
use Rattle.cx_syntax.proofs.Beside.{begins_in, ends_in}

-- a front of what begins a language begins it at each number of levels
module _ {T A : Type 0} (L : Family T A) (go : A → T → Bool) {read : Reader T A} (g : Exactly L go 0 read) where
  pub front_begins : (u a b : List T) → u ≡ a ++ b → (L 0).begins u → (n : ℕ) → (L n).begins a
  front_begins u a b e h n = let w = ends_in L go 0 u (read u) (g.at u) u [] (sym (append-nil u)) h in
      begins_in L go 0 u (read u) (g.at u) n (omega arith) a (b ++ w.0) (w.1 ∙ (ap (λ l. l ++ w.0) e ∙ append_assoc a b w.0))

module _ {T : Type 0} (test : List T → Bool) (s : Stable test) where
  pub clear_by : (b : Bool) (x y : List T) → test x ≡ b → test (x ++ y) ≡ false → test x ≡ false
  clear_by true x y p c = absurd (not_both (s.more x y p) c)
  clear_by false x y p c = p

  pub clear_front : (ts x y : List T) → ts ≡ x ++ y → test ts ≡ false → test x ≡ false
  clear_front ts x y e c = clear_by (test x) x y refl (ap test (sym e) ∙ c)

  -- what does not pass the test goes no further than to the first token with which the tokens pass it
  pub beyond_by : (x : List T) (t : T) (z d y r : List T) → z ≡ x ++ d → t ∷ r ≡ d ++ y → test (x ++ t ∷ []) ≡ true → test z ≡ false → Within x z
  beyond_by x t z [] y r e k p c = ([], sym (append-nil z ∙ (e ∙ append-nil x)))
  beyond_by x t z (u ∷ d) y r e k p c = let same_token : t ≡ u = cc in
      let longer : z ≡ (x ++ t ∷ []) ++ d = e ∙ (ap (λ v. x ++ v ∷ d) (sym same_token) ∙ sym (append_assoc x (t ∷ []) d)) in
      absurd (not_both (ap test longer ∙ s.more (x ++ t ∷ []) d p) c)

  pub beyond : (x : List T) (t : T) (r z y : List T) → x ++ t ∷ r ≡ z ++ y → test (x ++ t ∷ []) ≡ true → test z ≡ false → Within x z
  beyond x t r z y e p c = elim (splits x (t ∷ r) z y e) [ inl (d, a, b) ↦ (d, a) | inr (d, a, b) ↦ beyond_by x t z d y r a b p c ]

  module _ {A : Type 0} (G : Family T A) (go : A → T → Bool) (least : ℕ) (ts : List T) where
    abbrev clearly : Family T A
    clearly n = unless test (G n)

    pub clear_core : (R : ℕ → Type 0) (S : A → Type 0) (used rest : List T) → test ts ≡ false → Core G go least R S ts used rest → Core clearly go least R S ts used rest
    clear_core R S used rest c g = record {
      cut = g.cut;
      begins = λ n p x y e. record { part = g.begins n p x y e; clear = clear_front ts x (y ++ rest) (g.cut ∙ (ap (λ l. l ++ rest) e ∙ append_assoc x y rest)) c };
      only = λ n q x y w e h. g.only n q x y w e h.part;
      ends = λ n q x y e b. g.ends n q x y e b.part;
    }

    -- the tokens do not pass the test
    pub clear_exact : (o : Outcome T A) → test ts ≡ false → Exact G go least ts o → Exact clearly go least ts o
    clear_exact (done v rest) c g = record {
      used = g.used;
      spells = λ n l. record { part = g.spells n l; clear = clear_front ts g.used rest g.core.cut c };
      core = clear_core (λ n. Unit {0}) (λ w. w ≡ v) g.used rest c g.core;
    }
    clear_exact (stop rule left) c g = record {
      used = g.used;
      rest = g.rest;
      size = g.size;
      is = g.is;
      core = clear_core (Reaches rule least) (λ w. ⊥) g.used g.rest c g.core;
      deep = λ e. let d = g.deep e in record {
        token = d.token;
        after = d.after;
        is = d.is;
        enough = d.enough;
        begins = λ n p. record { part = d.begins n p; clear = clear_front ts (g.used ++ d.token ∷ []) d.after (g.core.cut ∙ (ap (λ l. g.used ++ l) d.is ∙ sym (append_assoc g.used (d.token ∷ []) d.after))) c };
      };
    }

    -- they pass it, and what is before the token begins the language and spells only what that goes on with
    module _ (left : ℕ) (f : First test ts left) (begins : (n : ℕ) → least ≤ n → (x y : List T) → f.before ≡ x ++ y → (G n).begins x)
        (goes : (n : ℕ) (x y : List T) (w : A) → ts ≡ x ++ y → Within f.before x → (G n).spells x w → GoesOn go w y) where
      pub refused_exact : Exact clearly go least ts (stop Syntax left)
      refused_exact = record {
        used = f.before;
        rest = f.token ∷ f.after;
        size = f.size;
        is = inl refl;
        deep = λ e. absurd (not_nesting e);
        core = record {
          cut = f.cut;
          begins = λ n p x y e. record { part = begins n p x y e; clear = clear_front f.before x y e f.clear };
          only = λ n q x y w e h. let near = beyond f.before f.token f.after x y (sym f.cut ∙ e) f.passed h.clear in shorter near (goes n x y w e near h.part);
          ends = λ n q x y e b. beyond f.before f.token f.after x y (sym f.cut ∙ e) f.passed b.clear;
        };
      }
