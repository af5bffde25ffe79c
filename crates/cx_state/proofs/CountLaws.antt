-- Laws of the numbers of objects and cells, and of the limits on them.
use Rattle.std.proofs.Common.{◌≡◌, ℕ, zero, suc, ◌+◌, ◌<◌, ◌≤◌, Bool, true, false, ◌&&◌, not, [], ◌∷◌, ◌++◌, length, Option, None, Some, Ok, Err, ◌⊎◌, inl, inr, refl, sym, ap, subst, ◌∙◌, slice_get, arith, length-append, if◌then◌else◌, List, sum}
use Rattle.std.proofs.lemmas.Bool.{leb-true, leb-false, le-leb, ltb-true, ltb-false, lt-ltb, false_from_ne_true}
use Rattle.std.specs.Prelude.{◌↔◌, cond, nat_lt, nat_le, map, option_and_then}
use Rattle.std.specs.List.{find}
use Rattle.cx_base.specs.declared.rule.Rule.{Rule}
use Rattle.cx_base.specs.declared.rule.Rule.TheVariants as rule
use Rattle.cx_base.specs.declared.limits.Limits.{Limits}
use Rattle.cx_type_defs.specs.Tables.{Tables, no_types, changed_at}
use Rattle.cx_type_defs.proofs.Lists.{some_inj}
use Rattle.std.proofs.lemmas.List.Sums.{sum_by-append}
use Rattle.cx_state.specs.declared.kind.Birth.{Birth}
use Rattle.cx_state.specs.Objects.{Path, Tree, Object, Objects, put}
use Rattle.cx_state.specs.Conditions as on
use Rattle.cx_state.specs.Steps.{unless, given_up, release, settle, cut, Write, access_of, write}
use Rattle.cx_state.specs.Counts.{Request, counts, new_object, cells_in, is_live, live_cells, make, next_place, SameCounts}
use Rattle.cx_state.proofs.Paths.{changed_at-length, and-left, and-right, and-both}
use Rattle.cx_state.proofs.Known.{unless-ok, make-ok}

sum-cons : (x : ℕ) (xs : List ℕ) → sum (x ∷ xs) ≡ x + sum xs
sum-cons x xs = omega (arith, sum_by-append (λ y. y) (x ∷ []) xs)

-- the cells that an object counts for
abbrev share : Tables → Object → ℕ
share t o = if is_live o then cells_in t o else 0

live-cons : (t : Tables) (x : Object) (os : Objects) → live_cells t (x ∷ os) ≡ share t x + live_cells t os
live-cons t x os = sum-cons (share t x) (map (share t) os)

live-push : (t : Tables) (os : Objects) (o : Object) → live_cells t (os ++ o ∷ []) ≡ live_cells t os + share t o
live-push t [] o = live-cons t o [] ∙ omega arith
live-push t (x ∷ os) o = live-cons t x (os ++ o ∷ []) ∙ ap (λ n. share t x + n) (live-push t os o) ∙ omega arith ∙ ap (λ n. n + share t o) (sym (live-cons t x os))

live-same : (t : Tables) (f : Object → Object) → ((o : Object) → share t (f o) ≡ share t o) → (os : Objects) (i : ℕ) → live_cells t (changed_at f os i) ≡ live_cells t os
live-same t f h [] i = refl
live-same t f h (x ∷ os) zero = live-cons t (f x) os ∙ ap (λ n. n + live_cells t os) (h x) ∙ sym (live-cons t x os)
live-same t f h (x ∷ os) (suc i) = live-cons t x (changed_at f os i) ∙ ap (λ n. share t x + n) (live-same t f h os i) ∙ sym (live-cons t x os)

swap_last : (a b c : ℕ) → a + b + c ≡ c + b + a
swap_last a b c = omega arith

live-changed : (t : Tables) (f : Object → Object) (os : Objects) (i : ℕ) (o : Object) → slice_get os i ≡ Some o → live_cells t (changed_at f os i) + share t o ≡ live_cells t os + share t (f o)
live-changed t f [] i o e = absurd (cc)
live-changed t f (x ∷ os) zero o e =
    let s : x ≡ o = some_inj x o e in
    ap (λ n. n + share t o) (live-cons t (f x) os) ∙ ap (λ w. share t (f x) + live_cells t os + share t w) (sym s) ∙ swap_last (share t (f x)) (live_cells t os) (share t x)
    ∙ ap (λ w. share t x + live_cells t os + share t (f w)) s ∙ ap (λ n. n + share t (f o)) (sym (live-cons t x os))
live-changed t f (x ∷ os) (suc i) o e =
    let h = live-changed t f os i o e in
    ap (λ n. n + share t o) (live-cons t x (changed_at f os i)) ∙ further (share t x) (live_cells t (changed_at f os i)) (share t o) (live_cells t os) (share t (f o)) h ∙ ap (λ n. n + share t (f o)) (sym (live-cons t x os))
  where
    further : (a b c d g : ℕ) → b + c ≡ d + g → a + b + c ≡ a + d + g
    further a b c d g h = omega arith

-- making

-- the two limits as tests
abbrev no_number : Limits → Objects → Bool
no_number limits os = nat_le limits.objects (length os)

abbrev no_cells : Tables → Limits → Objects → Object → Bool
no_cells t limits os o = o.counted && nat_lt limits.cells (live_cells t os + cells_in t o)

abbrev first_limit : Bool → Bool → Option Rule
first_limit a b = cond a (Some rule.LimitObjects) (cond b (Some rule.LimitCells) None)

no_limit : (a b : Bool) → first_limit a b ≡ None → (a ≡ false) × (b ≡ false)
no_limit true b e = absurd (cc)
no_limit false true e = absurd (cc)
no_limit false false e = (refl, refl)

unbroken : (t : Tables) (limits : Limits) (os now : Objects) (q : Request) → make t limits os q ≡ Ok now → (no_number limits os ≡ false) × (no_cells t limits os (new_object t q) ≡ false)
unbroken t limits os now q e = no_limit (no_number limits os) (no_cells t limits os (new_object t q)) (unless-ok (first_limit (no_number limits os) (no_cells t limits os (new_object t q))) (os ++ new_object t q ∷ []) now e).0

pub make-number : (t : Tables) (limits : Limits) (os now : Objects) (q : Request) → make t limits os q ≡ Ok now → length now ≡ suc (length os)
make-number t limits os now q e = ap length (sym (make-ok t limits os now q e)) ∙ length-append os (new_object t q ∷ []) ∙ omega arith

pub make-within : (t : Tables) (limits : Limits) (os now : Objects) (q : Request) → make t limits os q ≡ Ok now → length now ≤ limits.objects
make-within t limits os now q e = let n = make-number t limits os now q e in let h = leb-false limits.objects (length os) (unbroken t limits os now q e).0 in omega arith

share_of-new : (t : Tables) (q : Request) → share t (new_object t q) ≡ (if counts q.kind q.birth then cells_in t (new_object t q) else 0)
share_of-new t q = by_counts (counts q.kind q.birth)
  where
    by_counts : (b : Bool) → (if b && true then cells_in t (new_object t q) else 0) ≡ (if b then cells_in t (new_object t q) else 0)
    by_counts true = refl
    by_counts false = refl

pub make-cells : (t : Tables) (limits : Limits) (os now : Objects) (q : Request) → make t limits os q ≡ Ok now → live_cells t now ≡ live_cells t os + (if counts q.kind q.birth then cells_in t (new_object t q) else 0)
make-cells t limits os now q e =
    ap (live_cells t) (sym (make-ok t limits os now q e)) ∙ live-push t os (new_object t q) ∙ ap (λ n. live_cells t os + n) (share_of-new t q)

pub make-cells_within : (t : Tables) (limits : Limits) (os now : Objects) (q : Request) → make t limits os q ≡ Ok now → live_cells t os ≤ limits.cells → live_cells t now ≤ limits.cells
make-cells_within t limits os now q e h = subst (λ n. n ≤ limits.cells) (sym (make-cells t limits os now q e)) (small (counts q.kind q.birth) (unbroken t limits os now q e).1)
  where
    small : (b : Bool) → (b && nat_lt limits.cells (live_cells t os + cells_in t (new_object t q))) ≡ false → live_cells t os + (if b then cells_in t (new_object t q) else 0) ≤ limits.cells
    small true n = ltb-false limits.cells (live_cells t os + cells_in t (new_object t q)) n
    small false n = omega arith

-- limits

-- what is answered at each limit
at_objects : (a b : Bool) (x : Objects) → (unless (first_limit a b) x ≡ Err rule.LimitObjects) ↔ (a ≡ true)
at_objects true b x = (λ e. refl, λ e. refl)
at_objects false true x = (λ e. absurd (cc), λ e. absurd (cc))
at_objects false false x = (λ e. absurd (cc), λ e. absurd (cc))

at_cells : (a b : Bool) (x : Objects) → (unless (first_limit a b) x ≡ Err rule.LimitCells) ↔ ((a ≡ false) × (b ≡ true))
at_cells true b x = (λ e. absurd (cc), λ e. let h = e.0 in absurd (cc))
at_cells false true x = (λ e. (refl, refl), λ e. refl)
at_cells false false x = (λ e. absurd (cc), λ e. let h = e.1 in absurd (cc))

at_none : (a b : Bool) (x : Objects) (r : Rule) → unless (first_limit a b) x ≡ Err r → (r ≡ rule.LimitObjects) ⊎ (r ≡ rule.LimitCells)
at_none true b x r e = inl cc
at_none false true x r e = inr cc
at_none false false x r e = absurd (cc)

pub limit_objects-exactly : (t : Tables) (limits : Limits) (os : Objects) (q : Request) → (make t limits os q ≡ Err rule.LimitObjects) ↔ (limits.objects < length os + 1)
limit_objects-exactly t limits os q =
    let both = at_objects (no_number limits os) (no_cells t limits os (new_object t q)) (os ++ new_object t q ∷ []) in
    (λ e. let h = leb-true limits.objects (length os) (both.0 e) in omega arith, λ h. both.1 (le-leb limits.objects (length os) (omega arith)))

pub limit_cells-exactly : (t : Tables) (limits : Limits) (os : Objects) (q : Request)
    → (make t limits os q ≡ Err rule.LimitCells) ↔ ((length os + 1 ≤ limits.objects) × (counts q.kind q.birth ≡ true) × (limits.cells < live_cells t os + cells_in t (new_object t q)))
limit_cells-exactly t limits os q =
    let both = at_cells (no_number limits os) (no_cells t limits os (new_object t q)) (os ++ new_object t q ∷ []) in
    let c = counts q.kind q.birth in
    let l = nat_lt limits.cells (live_cells t os + cells_in t (new_object t q)) in (
      λ e. let w = both.0 e in let h = leb-false limits.objects (length os) w.0 in (omega arith, and-left c l w.1, ltb-true limits.cells (live_cells t os + cells_in t (new_object t q)) (and-right c l w.1)),
      λ h. let s = h.0 in
          both.1 (false_from_ne_true (no_number limits os) (λ e. let w = leb-true limits.objects (length os) e in omega arith), and-both c l h.1 (lt-ltb limits.cells (live_cells t os + cells_in t (new_object t q)) h.2)),
    )

pub limits-alone : (t : Tables) (limits : Limits) (os : Objects) (q : Request) (r : Rule) → make t limits os q ≡ Err r → (r ≡ rule.LimitObjects) ⊎ (r ≡ rule.LimitCells)
limits-alone t limits os q r e = at_none (no_number limits os) (no_cells t limits os (new_object t q)) (os ++ new_object t q ∷ []) r e

-- releasing

share_given_up : (t : Tables) (o : Object) → share t (given_up o) ≡ 0
share_given_up t o = by_counted o.counted
  where
    by_counted : (b : Bool) → (if b && false then cells_in t (given_up o) else 0) ≡ 0
    by_counted true = refl
    by_counted false = refl

share_living : (t : Tables) (o : Object) → o.released ≡ false → share t o ≡ (if o.counted then cells_in t o else 0)
share_living t o e = by_counted o.counted o.released e
  where
    by_counted : (b r : Bool) → r ≡ false → (if b && not r then cells_in t o else 0) ≡ (if b then cells_in t o else 0)
    by_counted true true e = absurd (cc)
    by_counted true false e = refl
    by_counted false r e = refl

release_living : (t : Tables) (os : Objects) (p : Path) (o : Object) → slice_get os p.object ≡ Some o → on.broken no_types os p on.Release ≡ None → o.released ≡ false
release_living t os p o eo e = by_released o.released (sym (ap (λ x. option_and_then (λ (w : Object). find (on.holds no_types w p on.Release) (on.order on.Release)) x) eo) ∙ e)
  where
    by_released : (b : Bool) → cond b (Some rule.Dangling) None ≡ None → b ≡ false
    by_released true e = absurd (cc)
    by_released false e = refl

pub release-cells : (t : Tables) (os now : Objects) (p : Path) (o : Object) → slice_get os p.object ≡ Some o → release os p ≡ Ok now → live_cells t now + (if o.counted then cells_in t o else 0) ≡ live_cells t os
release-cells t os now p o eo e =
    let ok = unless-ok (on.broken no_types os p on.Release) (changed_at given_up os p.object) now e in
    let h = live-changed t given_up os p.object o eo in
    let living = share_living t o (release_living t os p o eo ok.0) in
    ap (λ w. live_cells t w + (if o.counted then cells_in t o else 0)) (sym ok.1) ∙ ap (λ n. live_cells t (changed_at given_up os p.object) + n) (sym living) ∙ h ∙ ap (λ n. live_cells t os + n) (share_given_up t o) ∙ omega arith

pub release-number : (t : Tables) (os now : Objects) (p : Path) → release os p ≡ Ok now → length now ≡ length os
release-number t os now p e = ap length (sym (unless-ok (on.broken no_types os p on.Release) (changed_at given_up os p.object) now e).1) ∙ changed_at-length given_up os p.object

-- the other steps

same_counts : (t : Tables) (f : Object → Object) → ((o : Object) → share t (f o) ≡ share t o) → (os : Objects) (i : ℕ) → SameCounts t os (changed_at f os i)
same_counts t f h os i = record { as_many = changed_at-length f os i; as_large = live-same t f h os i }

pub put-counts : (t : Tables) (os : Objects) (f : Tree → Tree) (p : Path) → SameCounts t os (put f os p)
put-counts t os f p = same_counts t _ (λ o. refl) os p.object

pub write-counts : (t : Tables) (os now : Objects) (p : Path) (w : Write) → write t os p w ≡ Ok now → SameCounts t os now
write-counts t os now p w e = let c = unless-ok (on.broken t os p (access_of w)) _ now e in subst (SameCounts t os) c.1 (put-counts t os _ p)

pub settle-counts : (t : Tables) (os : Objects) (p : Path) (b : Birth) → SameCounts t os (settle os p b)
settle-counts t os p b = same_counts t _ (λ o. refl) os p.object

-- cutting

cut-number : (os : Objects) (mark : ℕ) → mark ≤ length os → length (cut os mark) ≡ mark
cut-number os zero h = refl
cut-number [] (suc n) h = absurd (omega arith)
cut-number (o ∷ os) (suc n) h = ap suc (cut-number os n (omega arith))

pub cut-next : (os : Objects) (mark : ℕ) → mark ≤ length os → next_place (cut os mark) ≡ record { object = mark; steps = []; past = false }
cut-next os mark h = ap (λ n. record { object = n; steps = []; past = false }) (cut-number os mark h)
