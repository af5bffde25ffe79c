-- How many tokens a reader leaves: no more than there were, or fewer.
use Rattle.std.proofs.Common.{◌≡◌, ℕ, zero, suc, ◌≤◌, ◌<◌, Bool, true, false, not, ◌&&◌, if◌then◌else◌, List, [], ◌∷◌, length, Option, Some, None, refl, sym, ◌∙◌, ap, subst, arith, length-append}
use Rattle.cx_base.specs.declared.rule.Rule.TheVariants.{Nesting}
use Rattle.cx_grammar.specs.Exact.{Outcome, done, stop}
use Rattle.cx_grammar.specs.Reading.{Reader, Shortens, token, token_by, the, refuse, made, guarded, sees, sees_two, maybe_if, turns_then, many_from, many_of, many_when, upto_of, such_of, separated_by, trailed_by, others_by, trail_of, measured_by, taken, last_name, names_by, ◌>>=◌, ◌>>◌, ◌<$>◌, ◌⊳◌, ◌⊲◌}
use Rattle.cx_grammar.specs.Language.{joined}
use Rattle.cx_syntax.specs.Linked.{read_then, links_from, links_of}

-- fewer than n tokens are left
abbrev pub Leaves : {T A : Type 0} → ℕ → Outcome T A → Type 0
Leaves n (done v rest) = length rest < n
Leaves n (stop rule left) = Unit {0}

pub record Keeps {T A : Type 0} (read : Reader T A) : Type 0 where
  pub at : (ts : List T) → Leaves (suc (length ts)) (read ts)

pub record Shrinks {T A : Type 0} (read : Reader T A) : Type 0 where
  pub at : (ts : List T) → Leaves (length ts) (read ts)

pub shortens_of : {T A : Type 0} {read : Reader T A} → Shrinks read → Shortens read
shortens_of s = record { at = λ ts rest v e. subst (λ o. Leaves (length ts) o) e (s.at ts) }

module _ {T A : Type 0} where
  weaken : (m n : ℕ) (o : Outcome T A) → m ≤ n → Leaves m o → Leaves n o
  weaken m n (done v rest) l k = omega arith
  weaken m n (stop rule left) l k = tt

  pub keeps_of : {read : Reader T A} → Shrinks read → Keeps read
  keeps_of {read} s = record { at = λ ts. weaken (length ts) (suc (length ts)) (read ts) (omega arith) (s.at ts) }

module _ {T A B : Type 0} where
  leaves_made : (n : ℕ) (f : A → B) (o : Outcome T A) → Leaves n o → Leaves n (made f o)
  leaves_made n f (done v rest) l = l
  leaves_made n f (stop rule left) l = tt

  leaves_then : (n : ℕ) (f : A → List T → Outcome T B) (o : Outcome T A) → Leaves n o → ((v : A) (rest : List T) → length rest < n → Leaves n (f v rest)) → Leaves n (o >>= f)
  leaves_then n f (done v rest) l h = h v rest l
  leaves_then n f (stop rule left) l h = tt

  -- behind a part that took a token, the next may leave all
  leaves_behind : (n m : ℕ) (f : A → List T → Outcome T B) (o : Outcome T A) → Leaves m o → ((v : A) (rest : List T) → length rest < m → Leaves n (f v rest)) → Leaves n (o >>= f)
  leaves_behind n m f (done v rest) l h = h v rest l
  leaves_behind n m f (stop rule left) l h = tt

  pub keeps_as : (f : A → B) {read : Reader T A} → Keeps read → Keeps (f <$> read)
  keeps_as f {read} k = record { at = λ ts. leaves_made (suc (length ts)) f (read ts) (k.at ts) }

  pub shrinks_as : (f : A → B) {read : Reader T A} → Shrinks read → Shrinks (f <$> read)
  shrinks_as f {read} k = record { at = λ ts. leaves_made (length ts) f (read ts) (k.at ts) }

module _ {T A B : Type 0} {r : Reader T A} {s : Reader T B} where
  pub keeps_both : Keeps r → Keeps s → Keeps (r >> s)
  keeps_both k h = record {
    at = λ ts. leaves_then (suc (length ts)) (λ a rest. made (λ b. (a, b)) (s rest)) (r ts) (k.at ts)
        (λ v rest l. leaves_made (suc (length ts)) (λ b. (v, b)) (s rest) (weaken (suc (length rest)) (suc (length ts)) (s rest) (omega arith) (h.at rest)));
  }

  pub shrinks_both : Shrinks r → Keeps s → Shrinks (r >> s)
  shrinks_both k h = record {
    at = λ ts. leaves_then (length ts) (λ a rest. made (λ b. (a, b)) (s rest)) (r ts) (k.at ts)
        (λ v rest l. leaves_made (length ts) (λ b. (v, b)) (s rest) (weaken (suc (length rest)) (length ts) (s rest) (omega arith) (h.at rest)));
  }

  pub shrinks_second : Keeps r → Shrinks s → Shrinks (r >> s)
  shrinks_second k h = record {
    at = λ ts. leaves_behind (length ts) (suc (length ts)) (λ a rest. made (λ b. (a, b)) (s rest)) (r ts) (k.at ts)
        (λ v rest l. leaves_made (length ts) (λ b. (v, b)) (s rest) (weaken (length rest) (length ts) (s rest) (omega arith) (h.at rest)));
  }

pub keeps_then : {T A B : Type 0} {r : Reader T A} {s : A → Reader T B} → Keeps r → ((v : A) → Keeps (s v)) → Keeps (read_then r s)
keeps_then {r = r} {s = s} k h = record {
  at = λ ts. leaves_then (suc (length ts)) (λ a rest. made (λ b. (a, b)) (s a rest)) (r ts) (k.at ts)
      (λ v rest l. let q = h v in leaves_made (suc (length ts)) (λ b. (v, b)) (s v rest) (weaken (suc (length rest)) (suc (length ts)) (s v rest) (omega arith) (q.at rest)));
}

-- ---- one token

token_leaves : {T A : Type 0} (o : Option A) (t : T) (ts : List T) → Leaves (length (t ∷ ts)) (token_by o t ts)
token_leaves (Some v) t ts = let l = length-append (t ∷ []) ts in omega arith
token_leaves None t ts = tt

token_at : {T A : Type 0} (f : T → Option A) (ts : List T) → Leaves (length ts) (token f ts)
token_at f [] = tt
token_at f (t ∷ ts) = token_leaves (f t) t ts

pub shrinks_token : {T A : Type 0} (f : T → Option A) → Shrinks (token f)
shrinks_token f = record { at = token_at f }

module _ {T A : Type 0} {r : Reader T A} (p : T → Bool) where
  pub shrinks_before : Keeps r → Shrinks (p ⊳ r)
  shrinks_before k = shrinks_as (λ (pair : _ × _). pair.1) (shrinks_both (shrinks_token _) k)

  pub shrinks_behind : Keeps r → Shrinks (r ⊲ p)
  shrinks_behind k = shrinks_as (λ (pair : _ × _). pair.0) (shrinks_second k (shrinks_token _))

-- ---- choices

pub leaves_if : {T A : Type 0} (n : ℕ) (b : Bool) (o p : Outcome T A) → Leaves n o → Leaves n p → Leaves n (if b then o else p)
leaves_if n true o p l k = l
leaves_if n false o p l k = k

module _ {T A : Type 0} where
  pub keeps_refuse : Keeps (refuse {T = T} {A = A})
  keeps_refuse = record { at = λ ts. tt }

  pub keeps_guarded : (room : Bool) {r : Reader T A} → Keeps r → Keeps (guarded room r)
  keeps_guarded room {r} k = record { at = λ ts. leaves_if (suc (length ts)) room (r ts) (stop Nesting (length ts)) (k.at ts) tt }

  pub shrinks_guarded : (room : Bool) {r : Reader T A} → Shrinks r → Shrinks (guarded room r)
  shrinks_guarded room {r} k = record { at = λ ts. leaves_if (length ts) room (r ts) (stop Nesting (length ts)) (k.at ts) tt }

  pub keeps_if : (test : List T → Bool) {r s : Reader T A} → Keeps r → Keeps s → Keeps (λ ts. if test ts then r ts else s ts)
  keeps_if test {r} {s} k h = record { at = λ ts. leaves_if (suc (length ts)) (test ts) (r ts) (s ts) (k.at ts) (h.at ts) }

  pub shrinks_if : (test : List T → Bool) {r s : Reader T A} → Shrinks r → Shrinks s → Shrinks (λ ts. if test ts then r ts else s ts)
  shrinks_if test {r} {s} k h = record { at = λ ts. leaves_if (length ts) (test ts) (r ts) (s ts) (k.at ts) (h.at ts) }

  pub keeps_maybe : (p : T → Bool) {r : Reader T A} → Keeps r → Keeps (maybe_if p r)
  keeps_maybe p {r} k = record { at = λ ts. leaves_if (suc (length ts)) (sees p ts) (made Some (r ts)) (done None ts) (leaves_made (suc (length ts)) Some (r ts) (k.at ts)) (omega arith) }

  pub keeps_such : (p : A → Bool) {r : Reader T A} → Keeps r → Keeps (such_of p r)
  keeps_such p {r} k = record { at = λ ts. leaves_then (suc (length ts)) (λ v rest. if p v then done v rest else refuse rest) (r ts) (k.at ts) (λ v rest l. leaves_if (suc (length ts)) (p v) (done v rest) (refuse rest) l tt) }

  pub keeps_measured : {M : Type 0} (f : List T → M) {r : Reader T A} → Keeps r → Keeps (measured_by f r)
  keeps_measured f {r} k = record { at = λ ts. leaves_then (suc (length ts)) (λ v rest. done (v, f (taken ts rest)) rest) (r ts) (k.at ts) (λ v rest l. l) }

  pub shrinks_measured : {M : Type 0} (f : List T → M) {r : Reader T A} → Shrinks r → Shrinks (measured_by f r)
  shrinks_measured f {r} k = record { at = λ ts. leaves_then (length ts) (λ v rest. done (v, f (taken ts rest)) rest) (r ts) (k.at ts) (λ v rest l. l) }

-- ---- repetitions

module _ {T A : Type 0} (test : List T → Bool) {r : Reader T A} (h : Keeps r) {last : Reader T (List A)} (e : Keeps last) where
  turns_leave : (k : ℕ) (ts : List T) → Leaves (suc (length ts)) (turns_then test r last k ts)
  turns_leave zero ts = e.at ts
  turns_leave (suc k) ts = leaves_if (suc (length ts)) (test ts) (r ts >>= (λ v rest. made (λ vs. v ∷ vs) (turns_then test r last k rest))) (last ts)
      (leaves_then (suc (length ts)) (λ v rest. made (λ vs. v ∷ vs) (turns_then test r last k rest)) (r ts) (h.at ts)
      (λ v rest l. leaves_made (suc (length ts)) (λ vs. v ∷ vs) (turns_then test r last k rest) (weaken (suc (length rest)) (suc (length ts)) (turns_then test r last k rest) (omega arith) (turns_leave k rest))))
      (e.at ts)

module _ {T A : Type 0} where
  keeps_nothing : Keeps {T = T} {A = List A} (λ ts. done [] ts)
  keeps_nothing = record { at = λ ts. omega arith }

  pub keeps_many : (p : T → Bool) {r : Reader T A} → Keeps r → Keeps (many_of p r)
  unfolding many_of
  keeps_many p h = record { at = λ ts. turns_leave (sees p) h keeps_nothing (length ts) ts }

  pub keeps_when : (test : List T → Bool) {r : Reader T A} → Keeps r → Keeps (many_when test r)
  unfolding many_when
  keeps_when test h = record { at = λ ts. turns_leave test h keeps_nothing (length ts) ts }

  pub keeps_upto : (n : ℕ) (p : T → Bool) {r : Reader T A} → Keeps r → Keeps (upto_of n p r)
  keeps_upto n p h = record { at = λ ts. turns_leave (sees p) h keeps_nothing n ts }

  pub keeps_separated : (p : T → Bool) {r : Reader T A} → Keeps r → Keeps (separated_by p r)
  keeps_separated p h = keeps_as joined (keeps_both h (keeps_many p (keeps_of (shrinks_before p h))))

  keeps_others : (p s : T → Bool) {r : Reader T A} → Keeps r → Keeps (others_by p s r)
  unfolding others_by
  keeps_others p s h = record { at = λ ts. turns_leave (sees_two p s) h (keeps_as (λ _. []) (keeps_maybe p (keeps_of (shrinks_token _)))) (length ts) ts }

  pub keeps_trailed : (p s : T → Bool) {r : Reader T A} → Keeps r → Keeps (trailed_by p s r)
  keeps_trailed p s h = keeps_as joined (keeps_both h (keeps_others p s (keeps_of (shrinks_before p h))))

last_leaves : {T B : Type 0} (m s : T → Bool) {r : Reader T B} → Keeps r → (ts : List T) → Leaves (suc (length ts)) (last_name m s r ts)
last_leaves m s h [] = h.at []
last_leaves m s {r} h (t ∷ ts) = leaves_if (suc (length (t ∷ ts))) (m t && not (s t)) (refuse ts) (r (t ∷ ts)) tt (h.at (t ∷ ts))

pub keeps_names : {T A B : Type 0} (f : T → Option A) (p m s : T → Bool) {r : Reader T B} → Keeps r → Keeps (names_by f p m s r)
keeps_names f p m s h = keeps_both (keeps_when (sees_two m p) (keeps_of (shrinks_behind p (keeps_of (shrinks_token f))))) (record { at = last_leaves m s h })

module _ {T B : Type 0} (test : Bool → T → Bool) {read : Bool → Reader T B} (h : (b : Bool) → Keeps (read b)) (flag : B → Bool) where
  links_leave : (k : ℕ) (b : Bool) (ts : List T) → Leaves (suc (length ts)) (links_from test read flag k b ts)
  links_leave zero b ts = omega arith
  links_leave (suc k) b ts = leaves_if (suc (length ts)) (sees (test b) ts) (read b ts >>= (λ v rest. made (λ vs. v ∷ vs) (links_from test read flag k (flag v) rest))) (done [] ts)
      (leaves_then (suc (length ts)) (λ v rest. made (λ vs. v ∷ vs) (links_from test read flag k (flag v) rest)) (read b ts) (let q = h b in q.at ts)
      (λ v rest l. leaves_made (suc (length ts)) (λ vs. v ∷ vs) (links_from test read flag k (flag v) rest) (weaken (suc (length rest)) (suc (length ts)) (links_from test read flag k (flag v) rest) (omega arith) (links_leave k (flag v) rest))))
      (omega arith)

  pub keeps_links : (b : Bool) → Keeps (links_of test read flag b)
  unfolding links_of
  keeps_links b = record { at = λ ts. links_leave (length ts) b ts }
