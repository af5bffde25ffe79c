-- Levels: parts that are one level deeper.
use Rattle.std.proofs.Common.{◌≡◌, ℕ, zero, suc, ◌≤◌, Bool, true, false, if◌then◌else◌, List, [], ◌∷◌, Some, None, refl, sym, ap, subst, arith}
use Rattle.cx_grammar.specs.Language.{Language, present, absent, there, ◌⊳◌, in_first, whole}
use Rattle.cx_grammar.specs.Exact.{Family, Outcome, Exact}
use Rattle.cx_grammar.specs.Reading.{Reader, guarded}
use Rattle.cx_grammar.proofs.Parts.{exact_same, exact_present, exact_absent, Same, below, exact_deeper}
use Rattle.cx_grammar.proofs.Heads.{Heads}
use Rattle.cx_grammar.proofs.Steps.{Exactly, ExactlyAt}
use Rattle.cx_grammar.proofs.Choices.{Right}

-- ---- alternatives that stay at each number of levels

always_stays : {T A : Type 0} (G : Family T A) → (G 0).stays ≡ true → ((n : ℕ) → (G (suc n)).stays ≡ true) → (n : ℕ) → (G n).stays ≡ true
always_stays G at_last before zero = at_last
always_stays G at_last before (suc n) = before n

pub there_present : {T A : Type 0} {G : Family T A} {go : A → T → Bool} {least : ℕ} {ts : List T} {o : Outcome T A} → (G 0).stays ≡ true → ((n : ℕ) → (G (suc n)).stays ≡ true) → Right G go least ts o → Right (λ n. present (G n)) go least ts o
there_present {G = G} {go = go} {least = least} {ts = ts} {o = o} at_last before g = record { exact = exact_present G go least ts o (λ n p. always_stays G at_last before n) g.exact }

pub present_at : {T A : Type 0} {G : Family T A} {p : T → Bool} {go : A → T → Bool} {left : ℕ} {read : Reader T A} → (G 0).stays ≡ true → ((n : ℕ) → (G (suc n)).stays ≡ true) → Exactly G go left read → ExactlyAt p (λ n. present (G n)) go left read
present_at {G = G} {go = go} {left = left} {read = read} at_last before g = record { at = λ ts seen. exact_present G go left ts (read ts) (λ n p. always_stays G at_last before n) (g.at ts) }

-- ---- a language that is another one, a level deeper

-- K has nothing at the last level, and before it what L has with one level less
pub record Below {T A : Type 0} (K L : Family T A) : Type 1 where
  pub none : K 0 ≡ absent
  pub one_less : (n : ℕ) → K (suc n) ≡ there (L n)

module _ {T A : Type 0} {K L : Family T A} (b : Below K L) where
  below_spells : (n : ℕ) (x : List T) (w : A) → (below L n).spells x w → (K n).spells x w
  below_spells zero x w s = absurd s
  below_spells (suc n) x w s = subst (λ (l : Language T A). l.spells x w) (sym (b.one_less n)) s

  below_spelled : (n : ℕ) (x : List T) (w : A) → (K n).spells x w → (below L n).spells x w
  below_spelled zero x w s = subst (λ (l : Language T A). l.spells x w) b.none s
  below_spelled (suc n) x w s = subst (λ (l : Language T A). l.spells x w) (b.one_less n) s

  below_begins : (n : ℕ) (x : List T) → (below L n).begins x → (K n).begins x
  below_begins zero x s = subst (λ (l : Language T A). l.begins x) (sym b.none) s
  below_begins (suc n) x s = subst (λ (l : Language T A). l.begins x) (sym (b.one_less n)) s

  below_begun : (n : ℕ) (x : List T) → (K n).begins x → (below L n).begins x
  below_begun zero x s = subst (λ (l : Language T A). l.begins x) b.none s
  below_begun (suc n) x s = subst (λ (l : Language T A). l.begins x) (b.one_less n) s

  below_same : Same (below L) K
  below_same = record { spells = below_spells; spelled = below_spelled; begins = below_begins; begun = below_begun }

  pub exactly_below : {go : A → T → Bool} {left : ℕ} {read : Reader T A} → Exactly L go left read → Exactly K go (suc left) read
  exactly_below {go = go} {left = left} {read = read} g = record { at = λ ts. exact_same (below L) K go below_same (suc left) ts (read ts) (exact_deeper L go left ts (read ts) (g.at ts)) }

  module _ {p : T → Bool} (h : Heads L p) where
    down_blank : (n : ℕ) → (below L n).begins []
    down_blank zero = refl
    down_blank (suc n) = h.blank n

    down_full : (n : ℕ) (w : A) → (below L n).spells [] w → ⊥
    down_full zero w s = s
    down_full (suc n) w s = h.full n w s

    down_spells : (n : ℕ) (t : T) (x : List T) (w : A) → (below L n).spells (t ∷ x) w → p t ≡ true
    down_spells zero t x w s = absurd s
    down_spells (suc n) t x w s = h.spells n t x w s

    down_begins : (n : ℕ) (t : T) (x : List T) → (below L n).begins (t ∷ x) → p t ≡ true
    down_begins zero t x s = cc
    down_begins (suc n) t x s = h.begins n t x s

    pub heads_below : Heads K p
    heads_below = record {
      blank = λ n. below_begins n [] (down_blank n);
      full = λ n w s. down_full n w (below_spelled n [] w s);
      spells = λ n t x w s. down_spells n t x w (below_spelled n (t ∷ x) w s);
      begins = λ n t x s. down_begins n t x (below_begun n (t ∷ x) s);
    }

-- ---- an alternative all of whose spellings go a level deeper

-- With enough levels the alternative begins with this token; it is absent at the last level alone.
pub record Marked {T A : Type 0} (G : Family T A) (t : T) : Type 0 where
  pub enough : ℕ
  pub begins : (n : ℕ) → enough ≤ n → (G n).begins (t ∷ [])
  pub gone : (G 0).stays ≡ false
  pub unspelled : (x : List T) (w : A) → (G 0).spells x w → ⊥
  pub stays : (n : ℕ) → (G (suc n)).stays ≡ true

-- whether there is a level deeper
pub record Room (room : ℕ → Bool) : Type 0 where
  pub none : room 0 ≡ false
  pub some : (n : ℕ) → room (suc n) ≡ true

stays_from : {T A : Type 0} (G : Family T A) → ((n : ℕ) → (G (suc n)).stays ≡ true) → (n : ℕ) → 1 ≤ n → (G n).stays ≡ true
stays_from G s zero p = absurd (omega arith)
stays_from G s (suc n) p = s n

guarded_is : {T A : Type 0} (room b : Bool) (read : Reader T A) (ts : List T) → room ≡ b → guarded b read ts ≡ guarded room read ts
guarded_is room b read ts e = ap (λ c. guarded c read ts) (sym e)

pub marked : {T A : Type 0} {G : Family T A} {go : A → T → Bool} (room : ℕ → Bool) → Room room → (left : ℕ) {t : T} {ts : List T} {read : Reader T A} → Marked G t → (room left ≡ true → Exactly G go left read)
    → Right (λ n. present (G n)) go left (t ∷ ts) (guarded (room left) read (t ∷ ts))
marked {T = T} {A = A} {G = G} {go = go} room is zero {t = t} {ts = ts} {read = read} m h = let P : Outcome T A → Type 0 = λ o. Exact (λ n. present (G n)) go 0 (t ∷ ts) o in record {
  exact = subst P (guarded_is (room 0) false read (t ∷ ts) is.none)
      (exact_absent G go 0 t ts m.gone m.unspelled (suc m.enough) (λ n p. let l : 1 ≤ n = omega arith in stays_from G m.stays n l) (λ n p. let l : m.enough ≤ n = omega arith in m.begins n l));
}
marked {T = T} {A = A} {G = G} {go = go} room is (suc left) {t = t} {ts = ts} {read = read} m h = let P : Outcome T A → Type 0 = λ o. Exact (λ n. present (G n)) go (suc left) (t ∷ ts) o in let there = h (is.some left) in record {
  exact = subst P (guarded_is (room (suc left)) true read (t ∷ ts) (is.some left))
      (exact_present G go (suc left) (t ∷ ts) (read (t ∷ ts)) (λ n p. let l : 1 ≤ n = omega arith in stays_from G m.stays n l) (there.at (t ∷ ts)));
}

-- where there is a level deeper it is present
pub present_deep : {T A : Type 0} {G : Family T A} {p : T → Bool} {go : A → T → Bool} {left : ℕ} {read : Reader T A} → 1 ≤ left → ((n : ℕ) → (G (suc n)).stays ≡ true) → Exactly G go left read → ExactlyAt p (λ n. present (G n)) go left read
present_deep {G = G} {go = go} {left = left} {read = read} some_left s g = record { at = λ ts seen. exact_present G go left ts (read ts) (λ n p. let l : 1 ≤ n = omega arith in stays_from G s n l) (g.at ts) }

-- a token before a part begins the two, at each number of levels
pub begun_by : {T A : Type 0} (G : Family T A) (p : T → Bool) (t : T) → p t ≡ true → (n : ℕ) → (p ⊳ G n).begins (t ∷ [])
begun_by G p t e n = in_first (whole tt (record { token = t; alone = refl; fits = ap (λ b. if b then Some tt else None) e }))

-- what stands behind a token is a level deeper
pub marked_before : {T A : Type 0} (G : Family T A) (p : T → Bool) (t : T) → p t ≡ true → (G 0).stays ≡ false → ((x : List T) (w : A) → (G 0).spells x w → ⊥) → ((n : ℕ) → (G (suc n)).stays ≡ true) → Marked (λ n. p ⊳ G n) t
marked_before G p t e gone unspelled stays = record { enough = 0; begins = λ n l. begun_by G p t e n; gone = gone; unspelled = λ x w s. unspelled s.part.back s.value.1 s.part.second; stays = stays }
