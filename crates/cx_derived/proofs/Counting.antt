-- Counting ways base by base.
use Rattle.std.proofs.Common.{◌≡◌, ℕ, zero, suc, ◌+◌, ◌-◌, ◌<◌, ◌≤◌, ◌==◌, min, Bool, true, false, List, [], ◌∷◌, ◌++◌, length, take, get_or, Option, None, Some, refl, sym, ap, subst, ◌∙◌, slice_get, arith, sum_by, eqb-true}
use mir.Val.{bool_byte}
use Rattle.std.specs.Prelude.{IsSome, is_some, option_map, option_and_then, unwrap_or, if◌then◌else◌}
use Rattle.std.proofs.lemmas.List.Sums.{sum_by_more}
use Rattle.cx_type_defs.specs.declared.ids.ClassId.{ClassId}
use Rattle.cx_type_defs.specs.declared.decl.ClassBody.{ClassBody}
use Rattle.cx_type_defs.specs.Tables.{Tables, body_at, base_of}
use Rattle.cx_derived.specs.Ways.{led, bases_at, ways_within, ways_to, as_ways}
use Rattle.cx_type_defs.specs.Questions.{most_levels}
use Rattle.cx_type_defs.specs.Sound.{Sound}
use Rattle.cx_derived.specs.declared.walk.Ways.TheVariants as ways
use Rattle.cx_type_defs.proofs.Lists.{some_inj, option_and_then-some, slice_get-within, some-is}

abbrev pub listed : Option ClassBody → List ClassId
listed o = unwrap_or (option_map (λ (b : ClassBody). b.bases) o) []

pub no-bases : (t : Tables) (c : ClassId) → is_some (body_at t c) ≡ false → bases_at t c ≡ []
no-bases t c h = of (body_at t c) h
  where
    of : (o : Option ClassBody) → is_some o ≡ false → listed o ≡ []
    of None h = refl
    of (Some b) h = absurd (cc)

pub base-is : (t : Tables) (c : ClassId) (i : ℕ) → base_of t c i ≡ slice_get (bases_at t c) i
base-is t c i = of (body_at t c)
  where
    of : (o : Option ClassBody) → option_and_then (λ (b : ClassBody). slice_get b.bases i) o ≡ slice_get (listed o) i
    of None = refl
    of (Some b) = refl

pub many-bases : (t : Tables) (c : ClassId) (n : ℕ) → option_map (λ (b : ClassBody). length b.bases) (body_at t c) ≡ Some n → length (bases_at t c) ≡ n
many-bases t c n h = of (body_at t c) h
  where
    of : (o : Option ClassBody) → option_map (λ (b : ClassBody). length b.bases) o ≡ Some n → length (listed o) ≡ n
    of None h = absurd (cc)
    of (Some b) h = some_inj (length b.bases) n h

pub base-stands : (t : Tables) (c : ClassId) (n i : ℕ) → option_map (λ (b : ClassBody). length b.bases) (body_at t c) ≡ Some n → i < n → IsSome (base_of t c i)
base-stands t c n i h less =
    let l = many-bases t c n h in
    let x = slice_get-within (bases_at t c) i (omega arith) in
    some-is (base_of t c i) x.0 (base-is t c i ∙ x.1)

-- a base of a known class is known
pub get-is : {A : Type 0} (xs : List A) (i : ℕ) (x d : A) → slice_get xs i ≡ Some x → get_or xs i d ≡ x
get-is [] i x d e = absurd (cc)
get-is (y ∷ ys) zero x d e = some_inj y x e
get-is (y ∷ ys) (suc i) x d e = get-is ys i x d e

pub get-less : {A : Type 0} (xs : List A) (i : ℕ) (x : A) → slice_get xs i ≡ Some x → i < length xs
get-less [] i x e = absurd (cc)
get-less (y ∷ ys) zero x e = omega arith
get-less (y ∷ ys) (suc i) x e = omega (arith, get-less ys i x e)

abbrev pub here : ClassId → ClassId → ℕ
here c base = if c.0 == base.0 then 1 else 0

pub ways-open : (t : Tables) (base c : ClassId) (n : ℕ) → 1 ≤ n → ways_within t base n c ≡ here c base + sum_by (ways_within t base (n - 1)) (bases_at t c)
unfolding ways_within
ways-open t base c zero h = absurd (omega arith)
ways-open t base c (suc n) h = let e : n ≡ suc n - 1 = omega arith in ap (λ m. here c base + sum_by (ways_within t base m) (bases_at t c)) e

-- one base more
pub more : (t : Tables) (base c : ClassId) (n i h : ℕ) (next : ClassId) (total found : ℕ) → base_of t c i ≡ Some next
    → total ≡ min (h + sum_by (ways_within t base n) (take i (bases_at t c))) 2 → found ≡ min (ways_within t base n next) 2
    → min (total + found) 2 ≡ min (h + sum_by (ways_within t base n) (take (i + 1) (bases_at t c))) 2
more t base c n i h next total found at a b =
    let e : slice_get (bases_at t c) i ≡ Some next = sym (base-is t c i) ∙ at in
    let s = sum_by_more (ways_within t base n) (bases_at t c) i next (get-less (bases_at t c) i next e) in
    let g = ap (ways_within t base n) (get-is (bases_at t c) i next next e) in
    omega (arith, s, g)

pub no-more : (t : Tables) (base c : ClassId) (n : ℕ) → 1 ≤ n → bases_at t c ≡ [] → ways_within t base n c ≡ here c base
no-more t base c n h e =
    let o = ways-open t base c n h in
    let z : sum_by (ways_within t base (n - 1)) (bases_at t c) ≡ 0 = ap (sum_by (ways_within t base (n - 1))) e in
    omega (arith, o, z)

-- the count as it is told

pub ways-all : (t : Tables) (c base : ClassId) → ways_to t c base ≡ ways_within t base 512 c
unfolding ways_to most_levels
ways-all t c base = refl

pub as-none : (n : ℕ) → min n 2 ≡ 0 → as_ways n ≡ ways.None
as-none zero h = refl
as-none (suc n) h = absurd (omega arith)

pub as-one : (n : ℕ) → min n 2 ≡ 1 → as_ways n ≡ ways.One
as-one zero h = absurd (omega arith)
as-one (suc zero) h = refl
as-one (suc (suc n)) h = absurd (omega arith)

pub as-several : (n m : ℕ) → m ≡ min n 2 → (m ≡ 0 → ⊥) → (m ≡ 1 → ⊥) → as_ways n ≡ ways.Several
as-several zero m e h g = absurd (h (omega arith))
as-several (suc zero) m e h g = absurd (g (omega arith))
as-several (suc (suc n)) m e h g = refl

-- steps

pub next-known : (t : Tables) → Sound t → (c : ClassId) (i : ℕ) (next : ClassId) → base_of t c i ≡ Some next → next.0 < length t.classes
next-known t s c i next e =
    let b = option_and_then-some (λ (b : ClassBody). slice_get b.bases i) (body_at t c) next e in
    s.bases_known c b.0 i next b.1 b.2

pub led-more : (t : Tables) (c at : ClassId) (steps : List ℕ) (i : ℕ) (next : ClassId) → led t c steps ≡ Some at → base_of t at i ≡ Some next → led t c (steps ++ i ∷ []) ≡ Some next
led-more t c at [] i next e f = ap (λ (w : ClassId). option_and_then (λ b. Some b) (base_of t w i)) (some_inj c at e) ∙ ap (option_and_then (λ (b : ClassId). Some b)) f
led-more t c at (j ∷ js) i next e f =
    let b = option_and_then-some (λ b. led t b js) (base_of t c j) at e in
    ap (option_and_then (λ b. led t b (js ++ i ∷ []))) b.1 ∙ led-more t b.0 at js i next b.2 f

pub byte-is : (c base : ClassId) (n : ℕ) → n ≡ bool_byte (c.0 == base.0) → (n ≡ here c base) × (here c base ≤ 1)
byte-is c base n e = of (c.0 == base.0) n e
  where
    of : (b : Bool) (n : ℕ) → n ≡ bool_byte b → (n ≡ (if b then 1 else 0)) × ((if b then 1 else 0) ≤ 1)
    of true n e = (e, omega arith)
    of false n e = (e, omega arith)

-- one base more from which nothing leads on
pub none-more : (t : Tables) (base c : ClassId) (n i : ℕ) (next : ClassId) (found : ℕ) → base_of t c i ≡ Some next
    → sum_by (ways_within t base n) (take i (bases_at t c)) ≡ 0 → found ≡ min (ways_within t base n next) 2 → found ≤ 0
    → sum_by (ways_within t base n) (take (i + 1) (bases_at t c)) ≡ 0
none-more t base c n i next found at a b z =
    let e : slice_get (bases_at t c) i ≡ Some next = sym (base-is t c i) ∙ at in
    let s = sum_by_more (ways_within t base n) (bases_at t c) i next (get-less (bases_at t c) i next e) in
    let g = ap (ways_within t base n) (get-is (bases_at t c) i next next e) in
    omega (arith, s, g)

pub none-leads : (t : Tables) (base c : ClassId) → 1 ≤ ways_within t base 0 c → ⊥
unfolding ways_within
none-leads t base c h = omega arith

away : (c base : ClassId) → (c.0 ≡ base.0 → ⊥) → here c base ≡ 0
away c base apart = of (c.0 == base.0) refl
  where
    one_if : Bool → ℕ
    one_if b = if b then 1 else 0

    of : (b : Bool) → (c.0 == base.0) ≡ b → one_if b ≡ 0
    of true e = absurd (apart (eqb-true c.0 base.0 e))
    of false e = refl

-- a class that isn't the base leads to it by its bases
pub leads : (t : Tables) (base c : ClassId) (n m : ℕ) → 1 ≤ ways_within t base n c → (c.0 ≡ base.0 → ⊥) → m ≡ n - 1 → sum_by (ways_within t base m) (bases_at t c) ≡ 0 → ⊥
leads t base c zero m h apart is z = none-leads t base c h
leads t base c (suc n) m h apart is z =
    let o = ways-open t base c (suc n) (omega arith) in
    let a = away c base apart in
    let e = ap (λ k. sum_by (ways_within t base k) (bases_at t c)) is in
    omega (arith, o, a, e, z)

pub same-class : (a b : ClassId) → a.0 ≡ b.0 → a ≡ b
same-class a b e = ap class e
  where
    class : ℕ → ClassId
    class n = record { 0 = n }

pub taken-all : (t : Tables) (c base : ClassId) → 1 ≤ ways_to t c base → 1 ≤ ways_within t base 512 c
taken-all t c base h = omega (arith, ways-all t c base)

pub none-left : (t : Tables) (base c : ClassId) (n : ℕ) → 1 ≤ ways_within t base n c → n ≡ 0 → ⊥
none-left t base c n h e = none-leads t base c (subst (λ m. 1 ≤ ways_within t base m c) e h)
