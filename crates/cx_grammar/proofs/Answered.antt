-- What an exact reader's outcome says of a whole list of tokens.
use Rattle.std.proofs.Common.{◌≡◌, ℕ, Bool, List, [], ◌∷◌, ◌++◌, length, Result, Ok, Err, refl, sym, ◌∙◌, ap, subst, inl, inr, ◌⊎◌, append_assoc, arith, length-append}
use Rattle.std.proofs.lemmas.List.{append-nil}
use Rattle.cx_base.specs.declared.rule.Rule.{Rule}
use Rattle.cx_base.specs.declared.rule.Rule.TheVariants.{Syntax, Nesting}
use Rattle.cx_grammar.specs.declared.stop.ParseStop.{ParseStop}
use Rattle.cx_grammar.specs.Sets.{by, never}
use Rattle.cx_grammar.specs.Exact.{Family, Core, same, shorter, Reaches, Done, Stopped, Outcome, done, stop, Exact}
use Rattle.cx_grammar.specs.Reading.{Reader}
use Rattle.cx_grammar.specs.Reads.{Reads}
use Rattle.cx_grammar.specs.Answers.{Spelled, Refused, FaultAt, Begins}
use Rattle.cx_grammar.proofs.Parts.{not_nesting}
use Rattle.cx_grammar.proofs.Steps.{Exactly}

-- a list is longer than its front
longer : {T : Type 0} (x d : List T) (t : T) → x ≡ (x ++ t ∷ []) ++ d → ⊥
longer x d t e = let a = ap length e in let b = length-append (x ++ t ∷ []) d in let c = length-append x (t ∷ []) in let l = length-append (t ∷ []) [] in absurd (omega arith)

regroup : {T : Type 0} (ts x r : List T) (t : T) → ts ≡ x ++ t ∷ r → ts ≡ (x ++ t ∷ []) ++ r
regroup ts x r t e = e ∙ sym (append_assoc x (t ∷ []) r)

module _ {T A : Type 0} (L : Family T A) (levels : ℕ) where
  done_is : (ts : List T) (v : A) (rest : List T) → Done L (by never) levels ts v rest → rest ≡ [] → Spelled L levels ts v
  done_is ts v rest d none = let all : ts ≡ d.used = d.core.cut ∙ (ap (λ l. d.used ++ l) none ∙ append-nil d.used) in record {
    spelled = let P : List T → Type 0 = λ l. (L levels).spells l v in subst P (sym all) (d.spells levels (omega arith));
    alone = λ n w s. elim (d.core.only n tt ts [] w (sym (append-nil ts)) s) [ same a b c ↦ c | shorter a b ↦ absurd b ];
  }

  -- no longer front begins the language at a number of levels that the fault reaches
  no_further : (R : ℕ → Type 0) (S : A → Type 0) (ts used rest : List T) → Core L (by never) levels R S ts used rest → (n : ℕ) → R n → (t : T) (after : List T) → rest ≡ t ∷ after → (L n).begins (used ++ t ∷ []) → ⊥
  no_further R S ts used rest c n q t after e b = let w = c.ends n q (used ++ t ∷ []) after (regroup ts used after t (c.cut ∙ ap (λ l. used ++ l) e)) b in longer used w.0 t w.1

  more_is : (ts : List T) (v : A) (t : T) (r : List T) → Done L (by never) levels ts v (t ∷ r) → FaultAt L levels ts Syntax (length (t ∷ r))
  more_is ts v t r d = record {
    before = d.used;
    rest = t ∷ r;
    cut = d.core.cut;
    size = refl;
    begun = λ x y e. d.core.begins levels (omega arith) x y e;
    fault = λ u after e. inl (refl, λ n b. no_further (λ n. Unit {0}) (λ w. w ≡ v) ts d.used (t ∷ r) d.core n tt u after e b);
    none = λ w s. elim (d.core.only levels tt ts [] w (sym (append-nil ts)) s) [ same a b c ↦ (let h : [] ≡ t ∷ r = b in cc) | shorter a b ↦ absurd b ];
  }

  stopped_by : (ts : List T) (rule : Rule) (left : ℕ) (s : Stopped L (by never) levels ts rule left) → (rule ≡ Syntax) ⊎ (rule ≡ Nesting) → (t : T) (after : List T) → s.rest ≡ t ∷ after → Refused L levels rule (s.used ++ t ∷ [])
  stopped_by ts rule left s (inl is) t after e = inl (is, λ n b. no_further (Reaches rule levels) (λ w. ⊥) ts s.used s.rest s.core n (λ nesting. absurd (not_nesting (sym is ∙ nesting))) t after e b)
  stopped_by ts rule left s (inr is) t after e = let d = s.deep is in inr (
    is,
    (λ b. no_further (Reaches rule levels) (λ w. ⊥) ts s.used s.rest s.core levels (λ nesting. refl) t after e b),
    (d.enough, let same_list : d.token ∷ d.after ≡ t ∷ after = sym d.is ∙ e in let same_token : d.token ≡ t = cc in let P : T → Type 0 = λ u. (L d.enough).begins (s.used ++ u ∷ []) in subst P same_token (d.begins d.enough (omega arith))),
  )

  stop_is : (ts : List T) (rule : Rule) (left : ℕ) → Stopped L (by never) levels ts rule left → FaultAt L levels ts rule left
  stop_is ts rule left s = record {
    before = s.used;
    rest = s.rest;
    cut = s.core.cut;
    size = s.size;
    begun = λ x y e. s.core.begins levels (omega arith) x y e;
    fault = stopped_by ts rule left s s.is;
    none = λ w p. elim (s.core.only levels (λ nesting. refl) ts [] w (sym (append-nil ts)) p) [ same a b c ↦ absurd c | shorter a b ↦ absurd b ];
  }

  module _ {read : Reader T A} (g : Exactly L (by never) levels read) where
    exact_of : (ts : List T) (o : Outcome T A) → read ts ≡ o → Exact L (by never) levels ts o
    exact_of ts o e = let P : Outcome T A → Type 0 = λ z. Exact L (by never) levels ts z in subst P e (g.at ts)

    -- the whole list was read
    pub read_whole : (ts : List T) (v : A) (rest : List T) → read ts ≡ done v rest → length rest ≡ 0 → Spelled L levels ts v
    read_whole ts v [] e none = done_is ts v [] (exact_of ts (done v []) e) refl
    read_whole ts v (t ∷ r) e none = let l = length-append (t ∷ []) r in absurd (omega arith)

    -- tokens are left over
    pub read_more : (ts : List T) (v : A) (rest : List T) → read ts ≡ done v rest → (length rest ≡ 0 → ⊥) → FaultAt L levels ts Syntax (length rest)
    read_more ts v [] e some_left = absurd (some_left refl)
    read_more ts v (t ∷ r) e some_left = more_is ts v t r (exact_of ts (done v (t ∷ r)) e)

    -- a fault was found
    pub read_stopped : (ts : List T) (rule : Rule) (left : ℕ) → read ts ≡ stop rule left → FaultAt L levels ts rule left
    read_stopped ts rule left e = stop_is ts rule left (exact_of ts (stop rule left) e)

-- what was read of a front of the list
pub begins_of : {T A : Type 0} {L : Family T A} {go : A → T → Bool} {levels : ℕ} {read : Reader T A} → Exactly L go levels read → (old : List T) (result : Result A ParseStop) (new : List T) → Reads (read old) result new → Begins L go levels old result new
begins_of {T = T} {A = A} {L = L} {go = go} {levels = levels} g old (Ok v) new e = let P : Outcome T A → Type 0 = λ z. Exact L go levels old z in subst P e (g.at old)
begins_of {T = T} {A = A} {L = L} {go = go} {levels = levels} g old (Err e) new h = λ rule left is. let P : Outcome T A → Type 0 = λ z. Exact L go levels old z in subst P (h rule left is) (g.at old)
