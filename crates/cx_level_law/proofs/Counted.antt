-- What is spelled with some levels left is spelled with those numbers of levels left that are as many as its value goes deep:
-- for each way of joining languages.
use Rattle.std.proofs.Common.{◌≡◌, ℕ, zero, suc, max, ◌≤◌, Bool, List, [], ◌∷◌, Option, Some, None, map, refl, ap, inl, inr, arith}
use Rattle.std.proofs.Math.Nat.{le-max_left, le-max_right, max-le}
use Rattle.cx_grammar.specs.Language.{Language, the, ◌>>◌, ◌<$>◌, ◌∥◌, ◌⊳◌, ◌⊲◌, empty, present, maybe, many, SpellsMany, joined, upto, such, alone, along, with_tail, unless, measured, separated, trailed, absent, there}
use Rattle.cx_levels.specs.Levels.{greatest, perhaps}
use Rattle.cx_syntax.specs.Linked.{then_by, links, SpellsLinks}

-- With so many levels left, and with so many others: the value goes no deeper than the first,
-- and where it goes no deeper than the second the tokens spell it there too.
pub record Counted {T A : Type 0} (levels : A → ℕ) (n m : ℕ) (g h : Language T A) : Type 0 where
  pub within : (ts : List T) (v : A) → g.spells ts v → levels v ≤ n
  pub again : (ts : List T) (v : A) → g.spells ts v → levels v ≤ m → h.spells ts v

-- ---- numbers

pub max_left : (a b c : ℕ) → max a b ≤ c → a ≤ c
max_left a b c h = let l = le-max_left a b in omega arith

pub max_right : (a b c : ℕ) → max a b ≤ c → b ≤ c
max_right a b c h = let l = le-max_right a b in omega arith

pub max_zero : (a : ℕ) → max a 0 ≡ a
max_zero a = omega arith

pub zero_max : (a : ℕ) → max 0 a ≡ a
zero_max a = omega arith

-- the greatest of a list's levels
abbrev pub of_all : {A : Type 0} → (A → ℕ) → List A → ℕ
of_all levels vs = greatest (map levels vs)

-- a value that nests nothing
abbrev pub flat : {A : Type 0} → A → ℕ
flat v = 0

-- a value that stands one level deeper
abbrev pub one_more : {A : Type 0} → (A → ℕ) → A → ℕ
one_more p v = suc (p v)

-- no level is left for it
pub counted_absent : {T A : Type 0} (p : A → ℕ) (m : ℕ) (h : Language T A) → Counted p 0 m absent h
counted_absent p m h = record { within = λ ts v s. absurd s; again = λ ts v s l. absurd s }

module _ {T : Type 0} {n m : ℕ} where
  -- ---- what nests nothing

  pub counted_flat : {A : Type 0} (g : Language T A) → Counted flat n m g g
  counted_flat g = record { within = λ ts v s. omega arith; again = λ ts v s l. s }

  -- ---- values made from others

  pub counted_as : {A B : Type 0} {levels : A → ℕ} {g h : Language T A} (own : B → ℕ) (f : A → B)
      → ((v : A) → own (f v) ≡ levels v) → Counted levels n m g h → Counted own n m (f <$> g) (f <$> h)
  counted_as {levels = levels} own f e c = record {
    within = λ ts w s. let a = c.within ts s.value s.part in let b = ap own s.made in let d = e s.value in omega arith;
    again = λ ts w s l. let b = ap own s.made in let d = e s.value in let k : levels s.value ≤ m = omega arith in
        record { value = s.value; made = s.made; part = c.again ts s.value s.part k };
  }

  -- ---- one part and then another

  pub counted_both : {A B : Type 0} {p : A → ℕ} {q : B → ℕ} {a c : Language T A} {b d : Language T B}
      → Counted p n m a c → Counted q n m b d → Counted (λ (v : A × B). max (p v.0) (q v.1)) n m (a >> b) (c >> d)
  counted_both {p = p} {q = q} x y = record {
    within = λ ts v s. max-le (x.within s.front v.0 s.first) (y.within s.back v.1 s.second);
    again = λ ts v s l. record {
      front = s.front;
      back = s.back;
      cut = s.cut;
      first = x.again s.front v.0 s.first (max_left (p v.0) (q v.1) m l);
      second = y.again s.back v.1 s.second (max_right (p v.0) (q v.1) m l);
    };
  }

  -- where the second nests nothing, and where the first does not
  pub counted_first : {A B : Type 0} {p : A → ℕ} {a c : Language T A} (b : Language T B) → Counted p n m a c
      → Counted (λ (v : A × B). p v.0) n m (a >> b) (c >> b)
  counted_first b x = record {
    within = λ ts v s. x.within s.front v.0 s.first;
    again = λ ts v s l. record { front = s.front; back = s.back; cut = s.cut; first = x.again s.front v.0 s.first l; second = s.second };
  }

  pub counted_second : {A B : Type 0} {q : B → ℕ} {b d : Language T B} (a : Language T A) → Counted q n m b d
      → Counted (λ (v : A × B). q v.1) n m (a >> b) (a >> d)
  counted_second a y = record {
    within = λ ts v s. y.within s.back v.1 s.second;
    again = λ ts v s l. record { front = s.front; back = s.back; cut = s.cut; first = s.first; second = y.again s.back v.1 s.second l };
  }

  -- a token before a part, and behind one
  pub counted_before : {A : Type 0} {p : A → ℕ} {g h : Language T A} (t : T → Bool) → Counted p n m g h → Counted p n m (t ⊳ g) (t ⊳ h)
  counted_before {p = p} t c = counted_as p _ (λ v. refl) (counted_second (the t) c)

  pub counted_behind : {A : Type 0} {p : A → ℕ} {g h : Language T A} (t : T → Bool) → Counted p n m g h → Counted p n m (g ⊲ t) (h ⊲ t)
  counted_behind {p = p} t c = counted_as p _ (λ v. refl) (counted_first (the t) c)

  -- ---- one of two, and a part that may be left out

  pub counted_present : {A : Type 0} {p : A → ℕ} {g h : Language T A} → Counted p n m g h → Counted p n m (present g) (present h)
  counted_present c = record { within = c.within; again = c.again }

  pub counted_or : {A : Type 0} {p : A → ℕ} {a b c d : Language T A} → Counted p n m a c → Counted p n m b d → Counted p n m (a ∥ b) (c ∥ d)
  counted_or x y = record {
    within = λ ts v s. elim s [ inl i ↦ x.within ts v i | inr j ↦ y.within ts v j ];
    again = λ ts v s l. elim s [ inl i ↦ inl (x.again ts v i l) | inr j ↦ inr (y.again ts v j l) ];
  }

  pub counted_maybe : {A : Type 0} {p : A → ℕ} {g h : Language T A} → Counted p n m g h → Counted (perhaps p) n m (maybe g) (maybe h)
  counted_maybe {p = p} {g = g} {h = h} c =
      let none = counted_as (perhaps p) (λ (u : Unit {0}). None) (λ v. refl) (counted_flat empty) in
      let some = counted_as (perhaps p) Some (λ v. refl) (counted_present c) in record {
        within = λ ts v s. elim s [ inl i ↦ none.within ts v i | inr j ↦ some.within ts v j ];
        again = λ ts v s l. elim s [ inl i ↦ inl i | inr j ↦ inr (some.again ts v j l) ];
      }

  -- ---- a part any number of times, and so many times at most

  many_within : {A : Type 0} {p : A → ℕ} {g h : Language T A} → Counted p n m g h → (ts : List T) (vs : List A)
      → SpellsMany g ts vs → of_all p vs ≤ n
  many_within c ts [] s = omega arith
  many_within c ts (v ∷ vs) s = max-le (c.within s.0 v s.3) (many_within c s.1 vs s.4)

  many_again : {A : Type 0} {p : A → ℕ} {g h : Language T A} → Counted p n m g h → (ts : List T) (vs : List A)
      → SpellsMany g ts vs → of_all p vs ≤ m → SpellsMany h ts vs
  many_again c ts [] s l = s
  many_again {p = p} c ts (v ∷ vs) s l =
      (s.0, s.1, s.2, c.again s.0 v s.3 (max_left (p v) (of_all p vs) m l), many_again c s.1 vs s.4 (max_right (p v) (of_all p vs) m l))

  pub counted_many : {A : Type 0} {p : A → ℕ} {g h : Language T A} → Counted p n m g h → Counted (of_all p) n m (many g) (many h)
  counted_many c = record { within = many_within c; again = many_again c }

  counted_joined : {A : Type 0} {p : A → ℕ} {g h : Language T A} {k l : Language T (List A)} → Counted p n m g h
      → Counted (of_all p) n m k l → Counted (of_all p) n m (joined <$> (g >> k)) (joined <$> (h >> l))
  counted_joined {p = p} c d = counted_as (of_all p) joined (λ v. refl) (counted_both c d)

  pub counted_upto : {A : Type 0} {p : A → ℕ} {g h : Language T A} (most : ℕ) → Counted p n m g h
      → Counted (of_all p) n m (upto most g) (upto most h)
  counted_upto {p = p} zero c = counted_as (of_all p) _ (λ v. refl) (counted_flat empty)
  counted_upto {p = p} {g = g} {h = h} (suc most) c =
      let more = counted_joined (counted_present c) (counted_upto most c) in
      let none = counted_as (of_all p) (λ (u : Unit {0}). []) (λ v. refl) (counted_flat empty) in record {
        within = λ ts v s. elim s [ inl i ↦ more.within ts v i | inr j ↦ none.within ts v j ];
        again = λ ts v s l. elim s [ inl i ↦ inl (more.again ts v i l) | inr j ↦ inr j ];
      }

  -- with a separator between each two, and perhaps one behind the last
  pub counted_separated : {A : Type 0} {p : A → ℕ} {g h : Language T A} (t : T → Bool) → Counted p n m g h
      → Counted (of_all p) n m (separated t g) (separated t h)
  counted_separated t c = counted_joined c (counted_many (counted_before t c))

  pub counted_trailed : {A : Type 0} {p : A → ℕ} {g h : Language T A} (t : T → Bool) → Counted p n m g h
      → Counted (of_all p) n m (trailed t g) (trailed t h)
  counted_trailed {p = p} t c =
      counted_joined c (counted_as (of_all p) _ (λ v. refl) (counted_first (maybe (the t)) (counted_many (counted_before t c))))

  -- ---- what is filtered or measured

  pub counted_such : {A : Type 0} {p : A → ℕ} {g h : Language T A} (test : A → Bool) → Counted p n m g h
      → Counted p n m (such test g) (such test h)
  counted_such test c = record {
    within = λ ts v s. c.within ts v s.part;
    again = λ ts v s l. record { part = c.again ts v s.part l; such_a = s.such_a };
  }

  pub counted_unless : {A : Type 0} {p : A → ℕ} {g h : Language T A} (test : List T → Bool) → Counted p n m g h
      → Counted p n m (unless test g) (unless test h)
  counted_unless test c = record {
    within = λ ts v s. c.within ts v s.part;
    again = λ ts v s l. record { part = c.again ts v s.part l; clear = s.clear };
  }

  pub counted_measured : {A M : Type 0} {p : A → ℕ} {g h : Language T A} (f : List T → M) → Counted p n m g h
      → Counted (λ (v : A × M). p v.0) n m (measured f g) (measured f h)
  counted_measured f c = record {
    within = λ ts v s. c.within ts v.0 s.part;
    again = λ ts v s l. record { part = c.again ts v.0 s.part l; measure = s.measure };
  }

  -- ---- what a value allows behind it, and turns each of which depends on the one before it

  pub counted_then : {A B : Type 0} {p : A → ℕ} {q : B → ℕ} {a c : Language T A} {b d : A → Language T B}
      → Counted p n m a c → ((v : A) → Counted q n m (b v) (d v))
      → Counted (λ (v : A × B). max (p v.0) (q v.1)) n m (then_by a b) (then_by c d)
  counted_then {p = p} {q = q} x y = record {
    within = λ ts v s. max-le (x.within s.front v.0 s.first) ((y v.0).within s.back v.1 s.second);
    again = λ ts v s l. record {
      front = s.front;
      back = s.back;
      cut = s.cut;
      first = x.again s.front v.0 s.first (max_left (p v.0) (q v.1) m l);
      second = (y v.0).again s.back v.1 s.second (max_right (p v.0) (q v.1) m l);
    };
  }

  links_within : {B : Type 0} {p : B → ℕ} {g h : Bool → Language T B} (flag : B → Bool) → ((b : Bool) → Counted p n m (g b) (h b))
      → (b : Bool) (ts : List T) (vs : List B) → SpellsLinks g flag b ts vs → of_all p vs ≤ n
  links_within flag c b ts [] s = omega arith
  links_within flag c b ts (v ∷ vs) s = max-le ((c b).within s.0 v s.3) (links_within flag c (flag v) s.1 vs s.4)

  links_again : {B : Type 0} {p : B → ℕ} {g h : Bool → Language T B} (flag : B → Bool) → ((b : Bool) → Counted p n m (g b) (h b))
      → (b : Bool) (ts : List T) (vs : List B) → SpellsLinks g flag b ts vs → of_all p vs ≤ m → SpellsLinks h flag b ts vs
  links_again flag c b ts [] s l = s
  links_again {p = p} flag c b ts (v ∷ vs) s l =
      let more = links_again flag c (flag v) s.1 vs s.4 (max_right (p v) (of_all p vs) m l) in
      (s.0, s.1, s.2, (c b).again s.0 v s.3 (max_left (p v) (of_all p vs) m l), more)

  pub counted_links : {B : Type 0} {p : B → ℕ} {g h : Bool → Language T B} (flag : B → Bool)
      → ((b : Bool) → Counted p n m (g b) (h b)) → (b : Bool) → Counted (of_all p) n m (links g flag b) (links h flag b)
  counted_links flag c b = record { within = links_within flag c b; again = links_again flag c b }

  -- one part, and behind it perhaps another
  pub counted_tail : {A B : Type 0} {p : A → ℕ} {q : B → ℕ} {a c : Language T A} {b d : Language T B} (test : A → Bool)
      → Counted p n m a c → Counted q n m b d
      → Counted (λ (v : A × Option B). max (p v.0) (perhaps q v.1)) n m (with_tail test a b) (with_tail test c d)
  counted_tail {A = A} {B = B} {p = p} {q = q} test x y =
      let own : A × Option B → ℕ = λ v. max (p v.0) (perhaps q v.1) in
      let none = counted_as own alone (λ v. max_zero (p v)) x in
      let some = counted_as own along (λ v. refl) (counted_both (counted_such test x) (counted_present y)) in record {
        within = λ ts v s. elim s [ inl i ↦ none.within ts v i | inr j ↦ some.within ts v j ];
        again = λ ts v s l. elim s [ inl i ↦ inl (none.again ts v i l) | inr j ↦ inr (some.again ts v j l) ];
      }

  -- ---- one level deeper

  pub counted_last : {A : Type 0} {p : A → ℕ} {g h : Language T A} → Counted p n m g h → Counted (one_more p) (suc n) 0 (there g) absent
  counted_last c = record { within = λ ts v s. let a = c.within ts v s in omega arith; again = λ ts v s l. absurd (omega arith) }

  pub counted_there : {A : Type 0} {p : A → ℕ} {g h : Language T A} → Counted p n m g h
      → Counted (one_more p) (suc n) (suc m) (there g) (there h)
  counted_there {p = p} c = record {
    within = λ ts v s. let a = c.within ts v s in omega arith;
    again = λ ts v s l. let k : p v ≤ m = omega arith in c.again ts v s k;
  }
