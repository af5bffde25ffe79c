-- Readers that are exact, step by step.
use Rattle.std.proofs.Common.{◌≡◌, ℕ, Bool, true, false, if◌then◌else◌, List, [], ◌∷◌, ◌++◌, length, Option, Some, None, refl, sym, ◌∙◌, ap, subst, inl, arith}
use Rattle.cx_grammar.specs.Language.{passing, the, one, ◌>>◌, ◌<$>◌, ◌⊳◌, ◌⊲◌, present, empty, maybe, many, upto, joined, separated}
use Rattle.cx_grammar.specs.Exact.{Family, GoesOn, shorter, Outcome, done, stop, Exact}
use Rattle.cx_grammar.specs.Reading as r
use Rattle.cx_grammar.specs.Reading.{Reader, made, refuse, token, token_by, sees, maybe_if, many_of, many_from, upto_of, separated_by, ◌>>=◌, ◌<$>◌ as ◌<$$>◌, ◌>>◌ as ◌|>◌, ◌⊳◌ as ◌▷◌, ◌⊲◌ as ◌◁◌}
use Rattle.cx_grammar.proofs.Both.{Joins, exact_both, both_stop}
use Rattle.cx_grammar.proofs.Parts.{exact_one, exact_no, exact_left, exact_right, exact_as, exact_empty, Covered, elsewhere, none_within, not_nesting}
use Rattle.cx_grammar.proofs.Many.{Turns, exact_many, exact_upto}
use Rattle.cx_grammar.specs.Sets.{by, never}
use Rattle.cx_grammar.proofs.Heads.{Apart, Sub, Heads, Opens, opens, opens_many, heads_the, heads_as, heads_before, heads_present, heads_elsewhere, same_sub, option_apart, goes_first}

-- The reader is exact with this many levels left; `go` has the tokens that can go on with what was read.
pub record Exactly {T A : Type 0} (L : Family T A) (go : A → T → Bool) (least : ℕ) (read : Reader T A) : Type 0 where
  pub at : (ts : List T) → Exact L go least ts (read ts)

-- the same where the next token is of p
pub record ExactlyAt {T A : Type 0} (p : T → Bool) (L : Family T A) (go : A → T → Bool) (least : ℕ) (read : Reader T A) : Type 0 where
  pub at : (ts : List T) → sees p ts ≡ true → Exact L go least ts (read ts)

-- ---- nothing that the language begins with

pub exact_refuse : {T A : Type 0} {L : Family T A} {p : T → Bool} (go : A → T → Bool) (least : ℕ) → Heads L p → (ts : List T) → sees p ts ≡ false → Exact L go least ts (refuse ts)
exact_refuse {L = L} {p = p} go least h ts unseen = let c = elsewhere L go ts (heads_elsewhere h ts unseen) [] in record {
  used = [];
  rest = ts;
  size = refl;
  is = inl refl;
  deep = λ e. absurd (not_nesting e);
  core = record {
    cut = refl;
    begins = λ n k x y e. subst (λ l. (L n).begins l) (sym (none_within x y e)) (h.blank n);
    only = λ n i x y w e s. let p = c.only n tt x y w e s in shorter p.0 p.1;
    ends = λ n i x y e b. c.ends n tt x y e b;
  };
}

-- ---- one token

token_at : {T A : Type 0} (f : T → Option A) (least : ℕ) (t : T) (ts : List T) (o : Option A) → f t ≡ o → Exact (λ n. one f) (by never) least (t ∷ ts) (token_by o t ts)
token_at f least t ts (Some v) e = exact_one f (by never) least t ts v e
token_at f least t ts None e = exact_no f (by never) least (t ∷ ts) (λ u r v c k. let same_token : u ≡ t = cc in option_apart (sym e ∙ (ap f (sym same_token) ∙ k)))

pub token_read : {T A : Type 0} (f : T → Option A) (least : ℕ) (ts : List T) → Exact (λ n. one f) (by never) least ts (token f ts)
token_read f least [] = exact_no f (by never) least [] (λ u r v c k. cc)
token_read f least (t ∷ ts) = token_at f least t ts (f t) refl

pub exactly_token : {T A : Type 0} {f : T → Option A} {least : ℕ} → Exactly (λ n. one f) (by never) least (token f)
exactly_token {f = f} {least = least} = record { at = token_read f least }

-- ---- a value made from another

pub exactly_as : {T A B : Type 0} {G : Family T A} {q : T → Bool} {least : ℕ} {read : Reader T A} (f : A → B) → Exactly G (by q) least read → Exactly (λ n. f <$> G n) (by q) least (f <$$> read)
exactly_as {G = G} {q = q} {least = least} {read = read} f g = record { at = λ ts. exact_as f G (by q) (by q) (λ v t h. h) least ts (read ts) (g.at ts) }

-- where what goes on depends on the value
pub exactly_made : {T A B : Type 0} {G : Family T A} {least : ℕ} {read : Reader T A} (go_g : A → T → Bool) (go : B → T → Bool) (f : A → B) → ((v : A) (t : T) → go_g v t ≡ true → go (f v) t ≡ true) → Exactly G go_g least read → Exactly (λ n. f <$> G n) go least (f <$$> read)
exactly_made {G = G} {least = least} {read = read} go_g go f k g = record { at = λ ts. exact_as f G go_g go k least ts (read ts) (g.at ts) }

-- ---- one part and then another

both_at : {T A B : Type 0} (G : Family T A) (H : Family T B) (go_g : A → T → Bool) (go_h : B → T → Bool) (go : A × B → T → Bool) (j : Joins G H go_g go_h go) (least : ℕ) (s : Reader T B) → ((ts : List T) → Exact H go_h least ts (s ts))
    → (ts : List T) (o : Outcome T A) → Exact G go_g least ts o → Exact (λ n. G n >> H n) go least ts (o >>= (λ a rest. made (λ b. (a, b)) (s rest)))
both_at G H go_g go_h go j least s h ts (done v rest) g = exact_both G H go_g go_h go j least ts rest v (s rest) g (h rest)
both_at G H go_g go_h go j least s h ts (stop rule left) g = both_stop G H go_g go_h go j least ts rule left g

joins_by : {T A B : Type 0} {G : Family T A} {H : Family T B} {q p q2 q3 : T → Bool} → Opens H p → Apart q p → ((n : ℕ) (v : B) (t : T) → (H n).spells [] v → q t ≡ true → q3 t ≡ true) → Sub q2 q3 → Joins G H (by q) (by q2) (by q3)
joins_by h a over k = record {
  begins = λ n v t x b i. a t i (h.begins n t x b);
  spells = λ n v t x w s i. a t i (h.spells n t x w s);
  after = λ v t i. k t i;
  over = λ n v t s i. over n v.1 t s i;
}

-- the second part is never empty
pub exactly_both : {T A B : Type 0} {G : Family T A} {H : Family T B} {q p q2 : T → Bool} {least : ℕ} {read : Reader T A} {s : Reader T B} → Exactly G (by q) least read → Exactly H (by q2) least s → Heads H p → Apart q p → Exactly (λ n. G n >> H n) (by q2) least (read |> s)
exactly_both {G = G} {H = H} {q = q} {p = p} {q2 = q2} {least = least} {read = read} {s = s} g h heads a = record {
  at = λ ts. both_at G H (by q) (by q2) (by q2) (joins_by (opens heads) a (λ n v t none i. absurd (heads.full n v none)) (same_sub q2)) least s h.at ts (read ts) (g.at ts);
}

-- the second part may be empty
pub exactly_open : {T A B : Type 0} {G : Family T A} {H : Family T B} {q p q2 : T → Bool} (q3 : T → Bool) {least : ℕ} {read : Reader T A} {s : Reader T B} → Exactly G (by q) least read → Exactly H (by q2) least s → Opens H p → Apart q p → Sub q q3 → Sub q2 q3 → Exactly (λ n. G n >> H n) (by q3) least (read |> s)
exactly_open {G = G} {H = H} {q = q} {p = p} {q2 = q2} q3 {least = least} {read = read} {s = s} g h o a k k2 = record {
  at = λ ts. both_at G H (by q) (by q2) (by q3) (joins_by o a (λ n v t none i. k t i) k2) least s h.at ts (read ts) (g.at ts);
}

joins_then : {T A B : Type 0} {G : Family T A} {H : Family T B} {q p : T → Bool} (go_h : B → T → Bool) → Heads H p → Apart q p → Joins G H (by q) go_h (λ v t. go_h v.1 t)
joins_then go_h h a = record {
  begins = λ n v t x b i. a t i (h.begins n t x b);
  spells = λ n v t x w s i. a t i (h.spells n t x w s);
  after = λ v t i. i;
  over = λ n v t s i. absurd (h.full n v.1 s);
}

-- what goes on with the second part depends on its value
pub exactly_then : {T A B : Type 0} {G : Family T A} {H : Family T B} {q p : T → Bool} (go_h : B → T → Bool) {least : ℕ} {read : Reader T A} {s : Reader T B} → Exactly G (by q) least read → Exactly H go_h least s → Heads H p → Apart q p → Exactly (λ n. G n >> H n) (λ v t. go_h v.1 t) least (read |> s)
exactly_then {G = G} {H = H} {q = q} go_h {least = least} {read = read} {s = s} g h heads a = record {
  at = λ ts. both_at G H (by q) go_h (λ v t. go_h v.1 t) (joins_then go_h heads a) least s h.at ts (read ts) (g.at ts);
}

-- nothing goes on with the first part, so that anything may follow
pub joins_never : {T A B : Type 0} (G : Family T A) (H : Family T B) (go_h : B → T → Bool) → Joins G H (by never) go_h (λ v t. go_h v.1 t)
joins_never G H go_h = record { begins = λ n v t x b i. cc; spells = λ n v t x w s i. cc; after = λ v t i. i; over = λ n v t s i. cc }

pub exactly_next : {T A B : Type 0} {G : Family T A} {H : Family T B} (go_h : B → T → Bool) {least : ℕ} {read : Reader T A} {s : Reader T B} → Exactly G (by never) least read → Exactly H go_h least s → Exactly (λ n. G n >> H n) (λ v t. go_h v.1 t) least (read |> s)
exactly_next {G = G} {H = H} go_h {least = least} {read = read} {s = s} g h = record {
  at = λ ts. both_at G H (by never) go_h (λ v t. go_h v.1 t) (joins_never G H go_h) least s h.at ts (read ts) (g.at ts);
}

-- ---- a token before a part and behind it

pub exactly_before : {T A : Type 0} {G : Family T A} {q : T → Bool} {least : ℕ} {read : Reader T A} (p : T → Bool) → Exactly G (by q) least read → Exactly (λ n. p ⊳ G n) (by q) least (p ▷ read)
exactly_before {G = G} {q = q} {least = least} {read = read} p g = exactly_as (λ pair. pair.1) (record {
  at = λ ts. both_at (λ n. the p) G (by never) (by q) (by q) (joins_never (λ n. the p) G (by q)) least read g.at ts (r.the p ts) (token_read (passing p) least ts);
})

pub exactly_behind : {T A : Type 0} {G : Family T A} {q : T → Bool} {least : ℕ} {read : Reader T A} (p : T → Bool) → Exactly G (by q) least read → Apart q p → Exactly (λ n. G n ⊲ p) (by never) least (read ◁ p)
exactly_behind {q = q} p g a = exactly_as (λ pair. pair.0) (exactly_both g (exactly_token {f = passing p}) (heads_the p) a)

-- ---- parts that may be left out, and repetitions

-- where nothing was left out, the empty part is shorter
covered_none : {T B : Type 0} (q : T → Bool) (w0 : B) (f : Unit {0} → B) → (f tt ≡ w0) → (ts : List T) → GoesOn (by q) w0 ts → (used : List T) → Covered (λ n. f <$> empty) (by q) (λ n. Unit {0}) ts used
covered_none {B = B} q w0 f is ts h used = record {
  only = λ n i x y w e s. let none = s.part in let whole : ts ≡ y = e ∙ ap (λ l. l ++ y) none in
      ((used, sym (ap (λ l. l ++ used) none)), let P : B → Type 0 = λ z. GoesOn (by q) z y in subst P (sym (s.made ∙ (ap f refl ∙ is))) (subst (GoesOn (by q) w0) whole h));
  ends = λ n i x y e b. (used, sym (ap (λ l. l ++ used) b));
}

module _ {T A : Type 0} {G : Family T A} {p q : T → Bool} (q3 : T → Bool) {least : ℕ} {read : Reader T A} (h : Heads G p) (g : ExactlyAt p (λ n. present (G n)) (by q) least read) (k : Sub q q3) (k2 : Sub p q3) where
  more_goes : (o : Outcome T A) (ts : List T) → Exact (λ n. present (G n)) (by q) least ts o → Exact (λ n. Some <$> present (G n)) (by q3) least ts (made Some o)
  more_goes o ts e = exact_as Some (λ n. present (G n)) (by q) (by q3) (λ v t i. k t i) least ts o e

  maybe_at : (ts : List T) (b : Bool) → sees p ts ≡ b → Exact (λ n. maybe (G n)) (by q3) least ts (if b then made Some (read ts) else done None ts)
  maybe_at ts true seen = exact_right (λ n. (λ _. None) <$> empty) (λ n. Some <$> present (G n)) (by q3) least ts (made Some (read ts))
      (covered_none q3 None (λ _. None) refl ts (goes_first {A = Option A} k2 None ts seen)) (more_goes (read ts) ts (g.at ts seen))
  maybe_at ts false unseen = exact_left (λ n. (λ _. None) <$> empty) (λ n. Some <$> present (G n)) (by q3) least ts (done None ts)
      (elsewhere (λ n. Some <$> present (G n)) (by q3) ts (heads_elsewhere (heads_as Some (heads_present h)) ts unseen))
      (exact_as (λ _. None) (λ n. empty) (by never) (by q3) (λ v t i. cc) least ts (done tt ts) (exact_empty (by never) least ts))

  pub exactly_maybe : Exactly (λ n. maybe (G n)) (by q3) least (maybe_if p read)
  exactly_maybe = record { at = λ ts. maybe_at ts (sees p ts) refl }

  many_turns : Apart q p → Turns G (by q) (by q3) (sees p) read least
  many_turns a = record {
    full = h.full;
    item = λ ts seen. g.at ts seen;
    other = λ ts unseen. heads_elsewhere (heads_present h) ts unseen;
    begins = λ n v t x b i. a t i ((heads_present h).begins n t x b);
    spells = λ n v t x w s i. a t i (h.spells n t x w s);
    first = λ ts seen. goes_first {A = List A} k2 [] ts seen;
    after = λ v vs t i. k t i;
    later = λ v vs t i. i;
  }

  pub exactly_many : Apart q p → Exactly (λ n. many (G n)) (by q3) least (many_of p read)
  unfolding many_of
  exactly_many a = record { at = λ ts. exact_many G (by q) (by q3) (sees p) read least (many_turns a) (length ts) ts (omega arith) }

  -- so many turns at most
  pub exactly_upto : (most : ℕ) → Apart q p → Exactly (λ n. upto most (G n)) (by q3) least (upto_of most p read)
  exactly_upto most a = record { at = λ ts. exact_upto G (by q) (by q3) (sees p) read least (many_turns a) most ts }

-- ---- a part once or more, with a separator between each two

module _ {T A : Type 0} {G : Family T A} {p q : T → Bool} (q3 : T → Bool) {least : ℕ} {read : Reader T A} (h : Heads G p) (s : T → Bool) (g : Exactly G (by q) least read) (more : ExactlyAt s (λ n. present (s ⊳ G n)) (by q) least (s ▷ read)) (a : Apart q s) (k : Sub q q3) (k2 : Sub s q3) where
  pub exactly_separated : Exactly (λ n. separated s (G n)) (by q3) least (separated_by s read)
  exactly_separated = exactly_as joined (exactly_open q3 g (exactly_many q3 (heads_before {G = G} s) more k k2 a) (opens_many (heads_before {G = G} s)) a k (same_sub q3))
