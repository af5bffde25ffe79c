-- The count is that of the steps that lead to the base, and stays where the tables grow.
use Rattle.std.proofs.Common.{◌≡◌, ℕ, zero, suc, ◌+◌, ◌<◌, ◌≤◌, ◌==◌, Bool, true, false, true≢false, List, [], ◌∷◌, ◌++◌, length, max, Option, Some, refl, sym, ap, subst, ◌∙◌, slice_get, arith, sum_by, eq-eqb, eqb-true}
use Rattle.std.specs.Prelude.{IsSome, if◌then◌else◌}
use Rattle.std.proofs.lemmas.List.Sums.{sum_by-append}
use Rattle.cx_type_defs.specs.declared.ids.ClassId.{ClassId}
use Rattle.cx_type_defs.specs.declared.decl.ClassBody.{ClassBody}
use Rattle.cx_type_defs.specs.declared.decl.Field.{Field}
use Rattle.cx_type_defs.specs.Tables.{Tables, Grows, body_at, base_of}
use Rattle.cx_type_defs.specs.Questions.{OfType, OfClass, each, asked, depth_of, most}
use Rattle.cx_type_defs.specs.Sound.{Sound}
use Rattle.cx_type_defs.proofs.Lists.{some_inj, some-is, option_value, option_and_then-some, both-some, joined-some}
use Rattle.cx_type_defs.proofs.Growing.{body-stays}
use Rattle.cx_type_defs.proofs.Asked.{asked-by_body, asked-depth}
use Rattle.cx_derived.specs.Ways.{led, bases_at, ways_within, ways_to}
use Rattle.cx_derived.proofs.Counting.{here, listed, base-is, ways-all}

-- sums over the bases

sum-cons : {X : Type 0} (f : X → ℕ) (x : X) (xs : List X) → sum_by f (x ∷ xs) ≡ f x + sum_by f xs
sum-cons f x xs = omega (arith, sum_by-append f (x ∷ []) xs)

term : {X : Type 0} (f : X → ℕ) (xs : List X) (i : ℕ) (x : X) → slice_get xs i ≡ Some x → f x ≤ sum_by f xs
term f [] i x e = absurd (cc)
term f (y ∷ ys) zero x e = let s = ap f (some_inj y x e) in omega (arith, s, sum-cons f y ys)
term f (y ∷ ys) (suc i) x e = omega (arith, sum-cons f y ys, term f ys i x e)

two-terms : {X : Type 0} (f : X → ℕ) (xs : List X) (i j : ℕ) (x y : X) → slice_get xs i ≡ Some x → slice_get xs j ≡ Some y → (i ≡ j → ⊥) → f x + f y ≤ sum_by f xs
two-terms f [] i j x y e g apart = absurd (cc)
two-terms f (z ∷ zs) zero zero x y e g apart = absurd (apart refl)
two-terms f (z ∷ zs) zero (suc j) x y e g apart = let s = ap f (some_inj z x e) in omega (arith, s, sum-cons f z zs, term f zs j y g)
two-terms f (z ∷ zs) (suc i) zero x y e g apart = let s = ap f (some_inj z y g) in omega (arith, s, sum-cons f z zs, term f zs i x e)
two-terms f (z ∷ zs) (suc i) (suc j) x y e g apart = omega (arith, sum-cons f z zs, two-terms f zs i j x y e g (λ h. apart (ap suc h)))

sum-same : {X : Type 0} (f g : X → ℕ) (xs : List X) → ((i : ℕ) (x : X) → slice_get xs i ≡ Some x → f x ≡ g x) → sum_by f xs ≡ sum_by g xs
sum-same f g [] h = refl
sum-same f g (x ∷ xs) h = omega (arith, sum-cons f x xs, sum-cons g x xs, h 0 x refl, sum-same f g xs (λ i y e. h (suc i) y e))

-- a base is less deep

each-most : {X : Type 0} (f : X → Option ℕ) (xs : List X) (rs ys : List ℕ) → each f xs ≡ Some rs → (i : ℕ) (x : X) → slice_get xs i ≡ Some x → (r : ℕ) × (f x ≡ Some r) × (r ≤ most (rs ++ ys))
each-most f [] rs ys e i x at = absurd (cc)
each-most f (y ∷ xs) rs ys e zero x at =
    let b = both-some (f y) (each f xs) rs e in
    let m : most (rs ++ ys) ≡ max b.0 (most (b.1 ++ ys)) = ap (λ l. most (l ++ ys)) (sym b.4) in
    (b.0, ap f (sym (some_inj y x at)) ∙ b.2, omega (arith, m))
each-most f (y ∷ xs) rs ys e (suc i) x at =
    let b = both-some (f y) (each f xs) rs e in
    let m : most (rs ++ ys) ≡ max b.0 (most (b.1 ++ ys)) = ap (λ l. most (l ++ ys)) (sym b.4) in
    let r = each-most f xs b.1 ys b.3 i x at in
    let le = r.2 in
    (r.0, r.1, omega (arith, m, le))

base-depth : (t : Tables) (c : ClassId) (d i : ℕ) (next : ClassId) → asked depth_of t (OfClass c) ≡ Some d → base_of t c i ≡ Some next → (e : ℕ) × (asked depth_of t (OfClass next) ≡ Some e) × (e + 1 ≤ d)
base-depth t c d i next deep at =
    let b = option_and_then-some (λ (b : ClassBody). slice_get b.bases i) (body_at t c) next at in
    let y = asked-by_body depth_of t c b.0 d d b.1 deep deep in
    let z = joined-some (depth_of.of_class y.0 b.0.flags) (each (λ w. asked depth_of t (OfClass w)) b.0.bases) (each (λ (f : Field). asked depth_of t (OfType f.ty)) b.0.fields) d y.1 in
    let r = each-most (λ w. asked depth_of t (OfClass w)) b.0.bases z.0 z.1 z.2 i next b.2 in
    let le = r.2 in
    let s : most (z.0 ++ z.1) + 1 ≡ d = z.4 in
    (r.0, r.1, omega (arith, le, s))

-- steps are fewer than levels

short-deep : (t : Tables) (steps : List ℕ) (c last : ClassId) (d : ℕ) → asked depth_of t (OfClass c) ≡ Some d → led t c steps ≡ Some last → length steps < d
short-deep t [] c last d deep l = let a = (asked-depth t (OfClass c) d deep).0 in omega arith
short-deep t (i ∷ is) c last d deep l =
    let b = option_and_then-some (λ b. led t b is) (base_of t c i) last l in
    let e = base-depth t c d i b.0 deep b.1 in
    let le = e.2 in
    omega (arith, le, short-deep t is b.0 last e.0 e.1 b.2)

few-steps : (t : Tables) → Sound t → (steps : List ℕ) (c last : ClassId) → led t c steps ≡ Some last → length steps < 512
few-steps t s [] c last l = omega arith
few-steps t s (i ∷ is) c last l =
    let b = option_and_then-some (λ b. led t b is) (base_of t c i) last l in
    let body = option_and_then-some (λ (w : ClassBody). slice_get w.bases i) (body_at t c) b.0 b.1 in
    let d = option_value (asked depth_of t (OfClass c)) (s.classes_measured c (some-is (body_at t c) body.0 body.1)).levels_known in
    let a = (asked-depth t (OfClass c) d.0 d.1).1 in
    omega (arith, a, short-deep t (i ∷ is) c last d.0 d.1 l)

-- the count

ways-suc : (t : Tables) (base c : ClassId) (n : ℕ) → ways_within t base (suc n) c ≡ here c base + sum_by (ways_within t base n) (bases_at t c)
unfolding ways_within
ways-suc t base c n = refl

one_if : Bool → ℕ
one_if b = if b then 1 else 0

here-one : (c base : ClassId) → c ≡ base → here c base ≡ 1
unfolding one_if
here-one c base e = ap one_if (eq-eqb c.0 base.0 (ap (λ (w : ClassId). w.0) e))

module _ (t : Tables) (base : ClassId) where
  pub one-way : (n : ℕ) (steps : List ℕ) (c : ClassId) → length steps < n → led t c steps ≡ Some base → 1 ≤ ways_within t base n c
  one-way zero steps c less l = absurd (omega arith)
  one-way (suc n) [] c less l = omega (arith, ways-suc t base c n, here-one c base (some_inj c base l))
  one-way (suc n) (i ∷ is) c less l =
      let b = option_and_then-some (λ b. led t b is) (base_of t c i) base l in
      let w = one-way n is b.0 (omega arith) b.2 in
      omega (arith, ways-suc t base c n, w, term (ways_within t base n) (bases_at t c) i b.0 (sym (base-is t c i) ∙ b.1))

  not-both : (n i : ℕ) (is : List ℕ) (c : ClassId) → ways_within t base (suc n) c ≤ 1 → length is < n → c ≡ base → led t c (i ∷ is) ≡ Some base → ⊥
  not-both n i is c few less e l =
      let b = option_and_then-some (λ b. led t b is) (base_of t c i) base l in
      let w = one-way n is b.0 less b.2 in
      omega (arith, few, ways-suc t base c n, w, here-one c base e, term (ways_within t base n) (bases_at t c) i b.0 (sym (base-is t c i) ∙ b.1))

  pub same-way : (n : ℕ) (r s : List ℕ) (c : ClassId) → ways_within t base n c ≤ 1 → length r < n → length s < n → led t c r ≡ Some base → led t c s ≡ Some base → r ≡ s
  same-way zero r s c few less more l m = absurd (omega arith)
  same-way (suc n) [] [] c few less more l m = refl
  same-way (suc n) [] (j ∷ js) c few less more l m = absurd (not-both n j js c few (omega arith) (some_inj c base l) m)
  same-way (suc n) (i ∷ is) [] c few less more l m = absurd (not-both n i is c few (omega arith) (some_inj c base m) l)
  same-way (suc n) (i ∷ is) (j ∷ js) c few less more l m =
      let a = option_and_then-some (λ b. led t b is) (base_of t c i) base l in
      let b = option_and_then-some (λ b. led t b js) (base_of t c j) base m in
      of (i == j) refl a.0 b.0 (sym (base-is t c i) ∙ a.1) (sym (base-is t c j) ∙ b.1) a.2 b.2 (λ x. same-way n is js x)
    where
      of : (e : Bool) → (i == j) ≡ e → (x y : ClassId) → slice_get (bases_at t c) i ≡ Some x → slice_get (bases_at t c) j ≡ Some y → led t x is ≡ Some base → led t y js ≡ Some base → ((x : ClassId) → ways_within t base n x ≤ 1 → length is < n → length js < n → led t x is ≡ Some base → led t x js ≡ Some base → is ≡ js) → (i ∷ is) ≡ (j ∷ js)
      of true e x y p q v w rest =
          let k : i ≡ j = eqb-true i j e in
          let z : y ≡ x = some_inj y x (sym q ∙ ap (slice_get (bases_at t c)) (sym k) ∙ p) in
          let le : ways_within t base n x ≤ 1 = omega (arith, few, ways-suc t base c n, term (ways_within t base n) (bases_at t c) i x p) in
          let tails = rest x le (omega arith) (omega arith) v (subst (λ u. led t u js ≡ Some base) z w) in
          ap (λ h. h ∷ is) k ∙ ap (λ u. j ∷ u) tails
      of false e x y p q v w rest =
          let apart : i ≡ j → ⊥ = λ k. true≢false (sym (eq-eqb i j k) ∙ e) in
          let one = one-way n is x (omega arith) v in
          let other = one-way n js y (omega arith) w in
          absurd (omega (arith, few, ways-suc t base c n, one, other, two-terms (ways_within t base n) (bases_at t c) i j x y p q apart))

-- the laws

pub none-lead : (t : Tables) → Sound t → (c base : ClassId) → ways_to t c base ≡ 0 → (steps : List ℕ) → led t c steps ≡ Some base → ⊥
none-lead t s c base z steps l = omega (arith, z, ways-all t c base, one-way t base 512 steps c (few-steps t s steps c base l) l)

pub one-leads : (t : Tables) → Sound t → (c base : ClassId) → ways_to t c base ≤ 1 → (r s : List ℕ) → led t c r ≡ Some base → led t c s ≡ Some base → r ≡ s
one-leads t sound c base few r s l m = same-way t base 512 r s c (omega (arith, few, ways-all t c base)) (few-steps t sound r c base l) (few-steps t sound s c base m) l m

bases-stay : (t u : Tables) → Grows t u → (c : ClassId) → IsSome (body_at t c) → bases_at u c ≡ bases_at t c
bases-stay t u g c h = let b = option_value (body_at t c) h in ap listed (body-stays t u g c b.0 b.1) ∙ sym (ap listed b.1)

within-stays : (t u : Tables) → Sound t → Grows t u → (base : ClassId) (n : ℕ) (c : ClassId) → IsSome (body_at t c) → ways_within u base n c ≡ ways_within t base n c
unfolding ways_within
within-stays t u s g base zero c h = refl
within-stays t u s g base (suc n) c h =
    let b = option_value (body_at t c) h in
    let same = sum-same (ways_within u base n) (ways_within t base n) (bases_at t c)
    (λ i x at. within-stays t u s g base n x (s.bases_complete c b.0 i x b.1 (ap (λ o. slice_get (listed o) i) (sym b.1) ∙ at))) in
    ap (λ l. here c base + sum_by (ways_within u base n) l) (bases-stay t u g c h) ∙ ap (λ k. here c base + k) same

pub ways-stay : (t u : Tables) → Sound t → Grows t u → (c base : ClassId) → IsSome (body_at t c) → ways_to u c base ≡ ways_to t c base
ways-stay t u s g c base h = ways-all u c base ∙ within-stays t u s g base 512 c h ∙ sym (ways-all t c base)
