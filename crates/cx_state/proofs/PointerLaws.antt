-- Laws of moving and comparing pointers.
use Rattle.std.proofs.Common.{◌≡◌, ℕ, zero, suc, ◌<◌, ◌≤◌, ◌==◌, Bool, true, false, ◌&&◌, ◌||◌, not, List, [], ◌∷◌, ◌++◌, length, length-append, Option, None, Some, Result, Ok, Err, inl, inr, refl, sym, ap, subst, ◌∙◌, arith, eqb-true, eq-eqb, ℤ, pos, if◌then◌else◌}
use Rattle.std.proofs.lemmas.Bool.{cases_Bool, ltb-true, le-leb, lt-ltb, false_from_ne_true, true_from_ne_false}
use Rattle.std.proofs.lemmas.Int.{ints}
use Rattle.std.specs.Prelude.{nat_lt, unwrap_or, option_map, option_and_then, ◌+ℤ◌, ◌-ℤ◌, int_lt}
use lib.IntN.{+ℤ_assoc, +ℤ_idr, +ℤ_comm, +ℤ_invr, +ℤ-neg_ℤ_cancel, -ℤ-+ℤ_cancel}
use Rattle.cx_base.specs.declared.rule.Rule.{Rule}
use Rattle.cx_base.specs.declared.rule.Rule.TheVariants as rule
use Rattle.cx_type_defs.specs.declared.ids.Step.{Step}
use Rattle.cx_type_defs.specs.declared.ids.Step.TheVariants as step
use Rattle.cx_type_defs.specs.declared.ids.TypeId.{TypeId}
use Rattle.cx_type_defs.specs.declared.kind.TypeRow.{TypeRow}
use Rattle.cx_type_defs.specs.Tables.{Tables}
use Rattle.cx_type_defs.proofs.Lists.{some_inj}
use Rattle.cx_state.specs.Objects.{Path, Objects, same_step, same_steps, same_bool, same_path}
use Rattle.cx_state.specs.Places.{row_part, row_below, Spot, spot, elements}
use Rattle.cx_state.specs.Pointers.{is_dangling, first_row, count_at, at_index, index_within, moved, add, same_array, distance, Parting, parting, parts_at, is_union_kind, step_before, part_before, or_unspecified, less, apart_from_end, in_literal, in_two_literals, goes_on, is_within, are_members, in_two_members, is_unspecified, equal}
use Rattle.cx_state.specs.Forms.{Knows}
use Rattle.cx_state.proofs.Paths.{and-left, and-right, same_step-true, same_step-refl, same_steps-refl, same_steps-true, same_bool-refl, same_bool-true, same_path-refl, same_path-true, same_path-is}
use Rattle.cx_state.proofs.Spots.{at_element, at_single, Seat, InArray, Single, seat, place_at, spot_of-element}
use Rattle.cx_state.proofs.Known.{ok_inj, add-ok, moved-ok, index_within-some, count_at-element, count_at-single}

-- tests that say the same

same_tests : (a b : Bool) → (a ≡ true → b ≡ true) → (b ≡ true → a ≡ true) → a ≡ b
same_tests true b f g = sym (f refl)
same_tests false true f g = g refl
same_tests false false f g = refl

eqb-swap : (a b : ℕ) → (a == b) ≡ (b == a)
eqb-swap a b = same_tests (a == b) (b == a) (λ e. eq-eqb b a (sym (eqb-true a b e))) (λ e. eq-eqb a b (sym (eqb-true b a e)))

same_step-swap : (s u : Step) → same_step s u ≡ same_step u s
same_step-swap (step.Base i) (step.Base j) = eqb-swap i j
same_step-swap (step.Field i) (step.Field j) = eqb-swap i j
same_step-swap (step.Elem i) (step.Elem j) = eqb-swap i j
same_step-swap (step.Base i) (step.Field j) = refl
same_step-swap (step.Base i) (step.Elem j) = refl
same_step-swap (step.Field i) (step.Base j) = refl
same_step-swap (step.Field i) (step.Elem j) = refl
same_step-swap (step.Elem i) (step.Base j) = refl
same_step-swap (step.Elem i) (step.Field j) = refl

same_steps-swap : (ss us : List Step) → same_steps ss us ≡ same_steps us ss
same_steps-swap [] [] = refl
same_steps-swap [] (u ∷ us) = refl
same_steps-swap (s ∷ ss) [] = refl
same_steps-swap (s ∷ ss) (u ∷ us) = ap (λ b. b && same_steps ss us) (same_step-swap s u) ∙ ap (λ b. same_step u s && b) (same_steps-swap ss us)

same_bool-swap : (a b : Bool) → same_bool a b ≡ same_bool b a
same_bool-swap true true = refl
same_bool-swap true false = refl
same_bool-swap false true = refl
same_bool-swap false false = refl

pub same_path-swap : (p q : Path) → same_path p q ≡ same_path q p
same_path-swap p q = same_tests (same_path p q) (same_path q p) (λ e. same_path-is q p (sym (same_path-true p q e))) (λ e. same_path-is p q (sym (same_path-true q p e)))

three : (a b c d e f : Bool) → a ≡ d → b ≡ e → c ≡ f → (a && b && c) ≡ (d && e && f)
three a b c d e f x y z = ap (λ w. w && b && c) x ∙ ap (λ w. d && w && c) y ∙ ap (λ w. d && e && w) z

pub same_array-swap : (p q : Path) → same_array p q ≡ same_array q p
same_array-swap p q =
    three (p.object == q.object) (same_bool (spot p).many (spot q).many) (same_steps (spot p).array (spot q).array) (q.object == p.object) (same_bool (spot q).many (spot p).many) (same_steps (spot q).array (spot p).array)
    (eqb-swap p.object q.object) (same_bool-swap (spot p).many (spot q).many) (same_steps-swap (spot p).array (spot q).array)

pub same_array-refl : (p : Path) → same_array p p ≡ true
same_array-refl p =
    three (p.object == p.object) (same_bool (spot p).many (spot p).many) (same_steps (spot p).array (spot p).array) true true true
    (eq-eqb p.object p.object refl) (same_bool-refl (spot p).many) (same_steps-refl (spot p).array)

-- equality

pub equal-itself : (t : Tables) (os : Objects) (p : Path) → equal t os p p ≡ Ok true
equal-itself t os p = ap (λ b. if b then Ok true else if is_unspecified t os p p then Err rule.UnspecifiedCompare else Ok false) (same_path-refl p)

and-swap : (a b : Bool) → (a && b) ≡ (b && a)
and-swap true true = refl
and-swap true false = refl
and-swap false true = refl
and-swap false false = refl

and-false : (a : Bool) → (a && false) ≡ false
and-false true = refl
and-false false = refl

or-swap : (a b : Bool) → (a || b) ≡ (b || a)
or-swap true true = refl
or-swap true false = refl
or-swap false true = refl
or-swap false false = refl

in_two_literals-swap : (os : Objects) (p q : Path) → in_two_literals os p q ≡ in_two_literals os q p
in_two_literals-swap os p q = ap (λ b. not b && in_literal os p && in_literal os q) (eqb-swap p.object q.object) ∙ last (not (q.object == p.object)) (in_literal os p) (in_literal os q)
  where
    last : (a b c : Bool) → (a && b && c) ≡ (a && c && b)
    last true b c = and-swap b c
    last false b c = refl

is_within-swap : (p q : Path) → is_within p q ≡ is_within q p
is_within-swap p q = ap (λ b. b && (goes_on p.steps q.steps || goes_on q.steps p.steps)) (eqb-swap p.object q.object) ∙ ap (λ b. (q.object == p.object) && b) (or-swap (goes_on p.steps q.steps) (goes_on q.steps p.steps))

-- where two lists of steps part, seen from the other one
abbrev turned : Parting → Parting
turned x = record { row = x.row; left = x.right; right = x.left }

map-and_then : {A B C : Type 0} (f : B → C) (g : A → Option B) (o : Option A) → option_and_then (λ x. option_map f (g x)) o ≡ option_map f (option_and_then g o)
map-and_then f g None = refl
map-and_then f g (Some x) = refl

and_then-same : {A B : Type 0} (f g : A → Option B) → ((x : A) → f x ≡ g x) → (o : Option A) → option_and_then f o ≡ option_and_then g o
and_then-same f g h None = refl
and_then-same f g h (Some x) = h x

parting-turned : (t : Tables) (r : TypeRow) (ss us : List Step) → parting t r us ss ≡ option_map turned (parting t r ss us)
parting-turned t r [] [] = refl
parting-turned t r [] (u ∷ us) = refl
parting-turned t r (s ∷ ss) [] = refl
parting-turned t r (s ∷ ss) (u ∷ us) = elim (cases_Bool (same_step s u)) as (λ _. parting t r (u ∷ us) (s ∷ ss) ≡ option_map turned (parting t r (s ∷ ss) (u ∷ us))) [
  | inl e ↦ (
      let same : u ≡ s = sym (same_step-true s u e) in
      ap (λ b. if b then option_and_then (λ (q : TypeRow). parting t q us ss) (row_part t r u) else Some (record { row = r; left = u; right = s })) (sym (same_step-swap s u) ∙ e)
      ∙ ap (λ w. option_and_then (λ (q : TypeRow). parting t q us ss) (row_part t r w)) same
      ∙ and_then-same (λ (q : TypeRow). parting t q us ss) (λ (q : TypeRow). option_map turned (parting t q ss us)) (λ q. parting-turned t q ss us) (row_part t r s)
      ∙ map-and_then turned (λ (q : TypeRow). parting t q ss us) (row_part t r s)
      ∙ ap (option_map turned) (sym (ap (λ b. if b then option_and_then (λ (q : TypeRow). parting t q ss us) (row_part t r s) else Some (record { row = r; left = s; right = u })) e)))
  | inr e ↦ (
      ap (λ b. if b then option_and_then (λ (q : TypeRow). parting t q us ss) (row_part t r u) else Some (record { row = r; left = u; right = s })) (sym (same_step-swap s u) ∙ e)
      ∙ ap (option_map turned) (sym (ap (λ b. if b then option_and_then (λ (q : TypeRow). parting t q ss us) (row_part t r s) else Some (record { row = r; left = s; right = u })) e)))
]

parts_at-turned : (t : Tables) (os : Objects) (p q : Path) → parts_at t os q p ≡ option_map turned (parts_at t os p q)
parts_at-turned t os p q = elim (cases_Bool (p.object == q.object)) as (λ _. parts_at t os q p ≡ option_map turned (parts_at t os p q)) [
  | inl e ↦ (
      let o : q.object ≡ p.object = sym (eqb-true p.object q.object e) in
      ap (λ b. if b then option_and_then (λ r. parting t r q.steps p.steps) (first_row t os q) else None) (sym (eqb-swap p.object q.object) ∙ e)
      ∙ ap (λ i. option_and_then (λ r. parting t r q.steps p.steps) (first_row t os (place_at i q.steps q.past))) o
      ∙ and_then-same (λ r. parting t r q.steps p.steps) (λ r. option_map turned (parting t r p.steps q.steps)) (λ r. parting-turned t r p.steps q.steps) (first_row t os p)
      ∙ map-and_then turned (λ r. parting t r p.steps q.steps) (first_row t os p)
      ∙ ap (option_map turned) (sym (ap (λ b. if b then option_and_then (λ r. parting t r p.steps q.steps) (first_row t os p) else None) e)))
  | inr e ↦ (
      ap (λ b. if b then option_and_then (λ r. parting t r q.steps p.steps) (first_row t os q) else None) (sym (eqb-swap p.object q.object) ∙ e)
      ∙ ap (option_map turned) (sym (ap (λ b. if b then option_and_then (λ r. parting t r p.steps q.steps) (first_row t os p) else None) e)))
]

are_members-swap : (s u : Step) → are_members s u ≡ are_members u s
are_members-swap (step.Base i) (step.Base j) = refl
are_members-swap (step.Base i) (step.Field j) = refl
are_members-swap (step.Base i) (step.Elem j) = refl
are_members-swap (step.Field i) (step.Base j) = refl
are_members-swap (step.Field i) (step.Field j) = refl
are_members-swap (step.Field i) (step.Elem j) = refl
are_members-swap (step.Elem i) (step.Base j) = refl
are_members-swap (step.Elem i) (step.Field j) = refl
are_members-swap (step.Elem i) (step.Elem j) = refl

in_two_members-swap : (t : Tables) (os : Objects) (p q : Path) → in_two_members t os p q ≡ in_two_members t os q p
in_two_members-swap t os p q = by_parting (parts_at t os p q) ∙ ap (λ o. unwrap_or (option_map test o) false) (sym (parts_at-turned t os p q))
  where
    test : Parting → Bool
    test x = is_union_kind t x.row.kind && are_members x.left x.right

    by_parting : (o : Option Parting) → unwrap_or (option_map (λ (x : Parting). is_union_kind t x.row.kind && are_members x.left x.right) o) false ≡ unwrap_or (option_map test (option_map turned o)) false
    by_parting None = refl
    by_parting (Some x) = ap (λ b. is_union_kind t x.row.kind && b) (are_members-swap x.left x.right)

five : (a b c d e : Bool) → (a || b || c || d || e) ≡ (b || a || c || d || e)
five true true c d e = refl
five true false c d e = refl
five false true c d e = refl
five false false c d e = refl

is_unspecified-swap : (t : Tables) (os : Objects) (p q : Path) → is_unspecified t os p q ≡ is_unspecified t os q p
is_unspecified-swap t os p q =
    five (apart_from_end p q) (apart_from_end q p) (in_two_literals os p q) (is_within p q) (in_two_members t os p q)
    ∙ ap (λ b. apart_from_end q p || apart_from_end p q || b || is_within p q || in_two_members t os p q) (in_two_literals-swap os p q)
    ∙ ap (λ b. apart_from_end q p || apart_from_end p q || in_two_literals os q p || b || in_two_members t os p q) (is_within-swap p q)
    ∙ ap (λ b. apart_from_end q p || apart_from_end p q || in_two_literals os q p || is_within q p || b) (in_two_members-swap t os p q)

pub equal-swap : (t : Tables) (os : Objects) (p q : Path) → equal t os p q ≡ equal t os q p
equal-swap t os p q =
    ap (λ b. if b then Ok true else if is_unspecified t os p q then Err rule.UnspecifiedCompare else Ok false) (same_path-swap p q)
    ∙ ap (λ b. if same_path q p then Ok true else if b then Err rule.UnspecifiedCompare else Ok false) (is_unspecified-swap t os p q)

-- order

ltb-itself : (n : ℕ) → nat_lt n n ≡ false
ltb-itself n = false_from_ne_true (nat_lt n n) (λ e. let h : n < n = ltb-true n n e in omega arith)

pub less-itself : (t : Tables) (os : Objects) (p : Path) → is_dangling os p ≡ false → less t os p p ≡ Ok false
less-itself t os p d =
    ap (λ b. if b || b then Err rule.Dangling else if same_array p p then Ok (nat_lt (spot p).index (spot p).index) else tail) d
    ∙ ap (λ b. if b then Ok (nat_lt (spot p).index (spot p).index) else tail) (same_array-refl p)
    ∙ ap Ok (ltb-itself (spot p).index)
  where
    tail : Result Bool Rule
    tail = if p.past || p.past then Err rule.UnspecifiedCompare else or_unspecified (option_and_then (part_before t) (parts_at t os p p))

-- where one place is before another, that one isn't before it

ok_true : (b : Bool) → ◌≡◌ {A = Result Bool Rule} (Ok b) (Ok true) → b ≡ true
ok_true true e = refl
ok_true false e = absurd (cc)

ltb-back : (i j : ℕ) → nat_lt i j ≡ true → nat_lt j i ≡ false
ltb-back i j e = false_from_ne_true (nat_lt j i) (λ d. let h : i < j = ltb-true i j e in let g : j < i = ltb-true j i d in omega arith)

step_before-back : (in_union : Bool) (s u : Step) → step_before in_union s u ≡ Some true → step_before in_union u s ≡ Some false
step_before-back b (step.Elem i) (step.Elem j) e = ap Some (ltb-back i j (some_inj (nat_lt i j) true e))
step_before-back false (step.Field i) (step.Field j) e = ap Some (ltb-back i j (some_inj (nat_lt i j) true e))
step_before-back b s u e = absurd (cc)

part_before-back : (t : Tables) (x : Option Parting) → option_and_then (part_before t) x ≡ Some true → option_and_then (part_before t) (option_map turned x) ≡ Some false
part_before-back t None e = absurd (cc)
part_before-back t (Some x) e = step_before-back (is_union_kind t x.row.kind) x.left x.right e

or_unspecified-some : (o : Option Bool) → or_unspecified o ≡ Ok true → o ≡ Some true
or_unspecified-some None e = absurd (cc)
or_unspecified-some (Some b) e = ap Some (ok_true b e)

-- the four cases of an order, and the answers turned round
less_by : Bool → Bool → Bool → Result Bool Rule → Result Bool Rule → Result Bool Rule
less_by dangling same past near far = if dangling then Err rule.Dangling else if same then near else if past then Err rule.UnspecifiedCompare else far

less_by-back : (d s p : Bool) (near far near_back far_back : Result Bool Rule) → (near ≡ Ok true → near_back ≡ Ok false) → (far ≡ Ok true → far_back ≡ Ok false) → less_by d s p near far ≡ Ok true → less_by d s p near_back far_back ≡ Ok false
unfolding less_by
less_by-back true s p a b c d f g e = absurd (cc)
less_by-back false true p a b c d f g e = f e
less_by-back false false true a b c d f g e = absurd (cc)
less_by-back false false false a b c d f g e = g e

pub less-back : (t : Tables) (os : Objects) (p q : Path) → less t os p q ≡ Ok true → less t os q p ≡ Ok false
unfolding less_by
less-back t os p q e =
    ap (λ b. less_by b (same_array q p) (q.past || p.past) (near q p) (far q p)) (or-swap (is_dangling os q) (is_dangling os p))
    ∙ ap (λ b. less_by (is_dangling os p || is_dangling os q) b (q.past || p.past) (near q p) (far q p)) (same_array-swap q p)
    ∙ ap (λ b. less_by (is_dangling os p || is_dangling os q) (same_array p q) b (near q p) (far q p)) (or-swap q.past p.past)
    ∙ less_by-back (is_dangling os p || is_dangling os q) (same_array p q) (p.past || q.past) (near p q) (far p q) (near q p) (far q p)
    (λ h. ap Ok (ltb-back (spot p).index (spot q).index (ok_true (nat_lt (spot p).index (spot q).index) h)))
    (λ h. ap (λ x. or_unspecified (option_and_then (part_before t) x)) (parts_at-turned t os p q) ∙ ap or_unspecified (part_before-back t (parts_at t os p q) (or_unspecified-some (option_and_then (part_before t) (parts_at t os p q)) h)))
    e
  where
    near : Path → Path → Result Bool Rule
    near p q = Ok (nat_lt (spot p).index (spot q).index)

    far : Path → Path → Result Bool Rule
    far p q = or_unspecified (option_and_then (part_before t) (parts_at t os p q))

-- moving

-- what a known place is among the places of its array
pub record Own (t : Tables) (os : Objects) (p : Path) : Type 0 where
  pub within : (spot p).index ≤ count_at t os p
  pub itself : at_index p (count_at t os p) (spot p).index ≡ p
  pub others : (i : ℕ) → i ≤ count_at t os p → spot (at_index p (count_at t os p) i) ≡ record { array = (spot p).array; many = (spot p).many; index = i }

-- an index and a mark that agree
past_or_within : (past : Bool) (i n : ℕ) → (if past then i == n else nat_lt i n) ≡ true → (i ≤ n) × ((i == n) ≡ past)
past_or_within true i n e = (let h : i ≡ n = eqb-true i n e in omega arith, e)
past_or_within false i n e = let h : i < n = ltb-true i n e in (omega arith, false_from_ne_true (i == n) (λ d. let z : i ≡ n = eqb-true i n d in omega arith))

single_index : (past : Bool) → ((if past then 1 else 0) ≤ 1) × (((if past then 1 else 0) == 1) ≡ past)
single_index true = (omega arith, refl)
single_index false = (omega arith, refl)

index_below : (i : ℕ) → i ≤ 1 → (if i == 1 then 1 else 0) ≡ i
index_below zero h = refl
index_below (suc zero) h = refl
index_below (suc (suc i)) h = absurd (omega arith)

abbrev at_spot : ℕ → Spot → ℕ → ℕ → Path
at_spot o x n i = place_at o (if x.many then x.array ++ step.Elem i ∷ [] else x.array) (i == n)

abbrev with_index : Spot → ℕ → Spot
with_index x i = record { array = x.array; many = x.many; index = i }

-- the same of a place whose spot and count are known
abbrev OwnAt : Path → Spot → ℕ → Type 0
OwnAt p x n = (x.index ≤ n) × (at_spot p.object x n x.index ≡ p) × ((i : ℕ) → i ≤ n → spot (at_spot p.object x n i) ≡ with_index x i)

own_from : (t : Tables) (os : Objects) (p : Path) (x : Spot) (n : ℕ) → spot p ≡ x → count_at t os p ≡ n → OwnAt p x n → Own t os p
own_from t os p x n ex en h =
    let g : OwnAt p (spot p) (count_at t os p) = subst (λ y. OwnAt p y (count_at t os p)) (sym ex) (subst (OwnAt p x) (sym en) h) in
    record { within = g.0; itself = g.1; others = g.2 }

own_seat : (t : Tables) (os : Objects) (p : Path) → Seat t os p → Own t os p
own_seat t os p (InArray us i es sp r er a ea n of en e ee b) =
    let w = past_or_within p.past i n b in
    own_from t os p (at_element us i) n sp (count_at-element t os p us i r a n of sp er ea en)
    (w.0, ap (λ ss. place_at p.object ss (i == n)) (sym es) ∙ ap (λ m. place_at p.object p.steps m) w.1, λ k h. spot_of-element (k == n) us k)
own_seat t os p (Single sp r er a ea) =
    let w = single_index p.past in
    own_from t os p (at_single p.steps p.past) 1 (sp p.past) (count_at-single t os p (sp p.past))
    (w.0, ap (λ m. place_at p.object p.steps m) w.1, λ k h. sp (k == 1) ∙ ap (λ m. record { array = p.steps; many = false; index = m }) (index_below k h))

pub own : (t : Tables) (os : Objects) (p : Path) → Knows t os p → Own t os p
own t os p k = own_seat t os p (seat t os p k)

abbrev index_or_range : Path → ℕ → Option ℕ → Result Path Rule
index_or_range p count m = unwrap_or (option_map (λ i. Ok (at_index p count i)) m) (Err rule.PointerRange)

within-pos : (count i : ℕ) → i ≤ count → index_within count (pos i) ≡ Some i
within-pos count i h = ap (λ b. if b then Some i else None) (le-leb i count h)

not_dangling : (t : Tables) (os : Objects) (p : Path) (by : ℤ) → is_dangling os p ≡ false → add t os p by ≡ moved p (count_at t os p) by
not_dangling t os p by d = ap (λ b. if b then Err rule.Dangling else moved p (count_at t os p) by) d

pub add-nothing : (t : Tables) (os : Objects) (p : Path) → Knows t os p → is_dangling os p ≡ false → add t os p (pos 0) ≡ Ok p
add-nothing t os p k d =
    let o = own t os p k in
    not_dangling t os p (pos 0) d
    ∙ ap (λ z. index_or_range p (count_at t os p) (index_within (count_at t os p) z)) (+ℤ_idr (pos (spot p).index))
    ∙ ap (index_or_range p (count_at t os p)) (within-pos (count_at t os p) (spot p).index o.within)
    ∙ ap Ok o.itself

-- a place that one comes to by adding
record Reached (t : Tables) (os : Objects) (p q : Path) (by : ℤ) : Type 0 where
  index : ℕ
  is_sum : pos (spot p).index +ℤ by ≡ pos index
  small : index ≤ count_at t os p
  is_place : at_index p (count_at t os p) index ≡ q
  lives : is_dangling os p ≡ false
  spot_is : spot q ≡ with_index (spot p) index

reached : (t : Tables) (os : Objects) (p q : Path) (by : ℤ) → Knows t os p → add t os p by ≡ Ok q → Reached t os p q by
reached t os p q by k e =
    let a = add-ok t os p q by e in
    let m = moved-ok p q (count_at t os p) by a.1 in
    let w = index_within-some (count_at t os p) (pos (spot p).index +ℤ by) m.0 m.1 in
    record { index = m.0; is_sum = w.0; small = w.1; is_place = m.2; lives = a.0; spot_is = ap spot (sym m.2) ∙ (own t os p k).others m.0 w.1 }

abbrev count_by_spot : Option TypeRow → Tables → Spot → ℕ
count_by_spot r t x = if x.many then unwrap_or (option_map (λ (e : ℕ × TypeId). e.0) (option_and_then (λ (r : TypeRow). elements r.kind) (option_and_then (λ r. row_below t r x.array) r))) 0 else 1

pub add-same_array : (t : Tables) (os : Objects) (p q : Path) (by : ℤ) → Knows t os p → add t os p by ≡ Ok q → same_array q p ≡ true
add-same_array t os p q by k e =
    let m = reached t os p q by k e in
    ap (λ x. (q.object == p.object) && same_bool x.many (spot p).many && same_steps x.array (spot p).array) m.spot_is
    ∙ three (q.object == p.object) (same_bool (spot p).many (spot p).many) (same_steps (spot p).array (spot p).array) true true true
    (eq-eqb q.object p.object (sym (ap (λ (w : Path). w.object) m.is_place))) (same_bool-refl (spot p).many) (same_steps-refl (spot p).array)

pub add-distance : (t : Tables) (os : Objects) (p q : Path) (by : ℤ) → Knows t os p → add t os p by ≡ Ok q → distance os q p ≡ Ok by
add-distance t os p q by k e =
    let m = reached t os p q by k e in
    let object : p.object ≡ q.object = ap (λ (w : Path). w.object) m.is_place in
    let q_lives : is_dangling os q ≡ false = ap (λ i. is_dangling os (place_at i q.steps q.past)) (sym object) ∙ m.lives in
    ap (λ b. if b || is_dangling os p then Err rule.Dangling else if same_array q p then Ok (pos (spot q).index -ℤ pos (spot p).index) else Err rule.PointerDistance) q_lives
    ∙ ap (λ b. if b then Err rule.Dangling else if same_array q p then Ok (pos (spot q).index -ℤ pos (spot p).index) else Err rule.PointerDistance) m.lives
    ∙ ap (λ b. if b then Ok (pos (spot q).index -ℤ pos (spot p).index) else Err rule.PointerDistance) (add-same_array t os p q by k e)
    ∙ ap (λ (x : Spot). Ok (pos x.index -ℤ pos (spot p).index)) m.spot_is
    ∙ ap (λ z. Ok (z -ℤ pos (spot p).index)) (sym m.is_sum ∙ +ℤ_comm (pos (spot p).index) by)
    ∙ ap Ok (+ℤ-neg_ℤ_cancel by (pos (spot p).index))

pub add-twice : (t : Tables) (os : Objects) (p q : Path) (i j : ℤ) → Knows t os p → add t os p i ≡ Ok q → add t os q j ≡ add t os p (i +ℤ j)
add-twice t os p q i j k e =
    let m = reached t os p q i k e in
    let object : p.object ≡ q.object = ap (λ (w : Path). w.object) m.is_place in
    let q_lives : is_dangling os q ≡ false = ap (λ i. is_dangling os (place_at i q.steps q.past)) (sym object) ∙ m.lives in
    let count : count_at t os q ≡ count_at t os p = ap (λ (x : Spot). count_by_spot (first_row t os q) t x) m.spot_is ∙ ap (λ i. count_by_spot (first_row t os (place_at i p.steps p.past)) t (spot p)) (sym object) in
    let sum : pos (spot q).index +ℤ j ≡ pos (spot p).index +ℤ (i +ℤ j) =
    ap (λ (x : Spot). pos x.index +ℤ j) m.spot_is ∙ ap (λ z. z +ℤ j) (sym m.is_sum) ∙ +ℤ_assoc (pos (spot p).index) i j in
    not_dangling t os q j q_lives
    ∙ ap (λ n. moved q n j) count
    ∙ ap (λ z. index_or_range q (count_at t os p) (index_within (count_at t os p) z)) sum
    ∙ ap (λ (x : Spot). unwrap_or (option_map (λ l. Ok (at_spot q.object x (count_at t os p) l)) (index_within (count_at t os p) (pos (spot p).index +ℤ (i +ℤ j)))) (Err rule.PointerRange)) m.spot_is
    ∙ ap (λ o. unwrap_or (option_map (λ l. Ok (at_spot o (spot p) (count_at t os p) l)) (index_within (count_at t os p) (pos (spot p).index +ℤ (i +ℤ j)))) (Err rule.PointerRange)) (sym object)
    ∙ sym (not_dangling t os p (i +ℤ j) m.lives)

-- a known place that one comes to by adding, from the place itself

-- both lists of steps lead to elements of one array, or they are the same
data SameWay (ss us : List Step) : Type 0 where
  Elements : (ws : List Step) (i j : ℕ) → ss ≡ ws ++ step.Elem i ∷ [] → us ≡ ws ++ step.Elem j ∷ [] → SameWay ss us
  Same : us ≡ ss → SameWay ss us

same_way : (t : Tables) (os : Objects) (p q : Path) (by : ℤ) → Seat t os p → Reached t os p q by → SameWay p.steps q.steps
same_way t os p q by (InArray us i es sp r er a ea n of en e ee b) m =
    Elements us i m.index es (sym (ap (λ (w : Path). w.steps) m.is_place) ∙ ap (λ (x : Spot). if x.many then x.array ++ step.Elem m.index ∷ [] else x.array) sp)
same_way t os p q by (Single sp r er a ea) m = Same (sym (ap (λ (w : Path). w.steps) m.is_place) ∙ ap (λ (x : Spot). if x.many then x.array ++ step.Elem m.index ∷ [] else x.array) (sp p.past))

goes_on-as_long : (ss us : List Step) → length ss ≡ length us → goes_on ss us ≡ false
goes_on-as_long [] [] e = refl
goes_on-as_long [] (u ∷ us) e = absurd (omega arith)
goes_on-as_long (s ∷ ss) [] e = refl
goes_on-as_long (s ∷ ss) (u ∷ us) e = ap (λ b. same_step s u && b) (goes_on-as_long ss us (omega arith)) ∙ and-false (same_step s u)

as_long : (ss us : List Step) → SameWay ss us → length ss ≡ length us
as_long ss us (Elements ws i j e d) = ap length e ∙ length-append ws (step.Elem i ∷ []) ∙ sym (length-append ws (step.Elem j ∷ [])) ∙ ap length (sym d)
as_long ss us (Same e) = ap length (sym e)

-- they don't part at two members

abbrev at_members : Tables → Option Parting → Bool
at_members t o = unwrap_or (option_map (λ (x : Parting). is_union_kind t x.row.kind && are_members x.left x.right) o) false

through : (t : Tables) (f : TypeRow → Option Parting) (o : Option TypeRow) → ((q : TypeRow) → at_members t (f q) ≡ false) → at_members t (option_and_then f o) ≡ false
through t f None h = refl
through t f (Some q) h = h q

-- one more step that is the same
parting-one_more : (t : Tables) (s : Step) (ss us : List Step) → ((q : TypeRow) → at_members t (parting t q ss us) ≡ false) → (r : TypeRow) → at_members t (parting t r (s ∷ ss) (s ∷ us)) ≡ false
parting-one_more t s ss us h r =
    ap (λ b. at_members t (if b then option_and_then (λ (q : TypeRow). parting t q ss us) (row_part t r s) else Some (record { row = r; left = s; right = s }))) (same_step-refl s)
    ∙ through t (λ (q : TypeRow). parting t q ss us) (row_part t r s) h

parting-elements : (t : Tables) (ws : List Step) (i j : ℕ) (r : TypeRow) → at_members t (parting t r (ws ++ step.Elem i ∷ []) (ws ++ step.Elem j ∷ [])) ≡ false
parting-elements t [] i j r = elim (cases_Bool (i == j)) as (λ _. at_members t (parting t r (step.Elem i ∷ []) (step.Elem j ∷ [])) ≡ false) [
  | inl e ↦ ap (λ b. at_members t (if b then option_and_then (λ (q : TypeRow). parting t q [] []) (row_part t r (step.Elem i)) else Some (record { row = r; left = step.Elem i; right = step.Elem j }))) e ∙ through t (λ (q : TypeRow). parting t q [] []) (row_part t r (step.Elem i)) (λ q. refl)
  | inr e ↦ ap (λ b. at_members t (if b then option_and_then (λ (q : TypeRow). parting t q [] []) (row_part t r (step.Elem i)) else Some (record { row = r; left = step.Elem i; right = step.Elem j }))) e ∙ and-false (is_union_kind t r.kind)
]
parting-elements t (s ∷ ws) i j r = parting-one_more t s (ws ++ step.Elem i ∷ []) (ws ++ step.Elem j ∷ []) (parting-elements t ws i j) r

parting-itself : (t : Tables) (ss : List Step) (r : TypeRow) → at_members t (parting t r ss ss) ≡ false
parting-itself t [] r = refl
parting-itself t (s ∷ ss) r = parting-one_more t s ss ss (parting-itself t ss) r

parting-same_way : (t : Tables) (ss us : List Step) → SameWay ss us → (r : TypeRow) → at_members t (parting t r ss us) ≡ false
parting-same_way t ss us (Elements ws i j e d) r = ap (λ w. at_members t (parting t r w us)) e ∙ ap (λ w. at_members t (parting t r (ws ++ step.Elem i ∷ []) w)) d ∙ parting-elements t ws i j r
parting-same_way t ss us (Same e) r = ap (λ w. at_members t (parting t r ss w)) e ∙ parting-itself t ss r

in_two_members-same_way : (t : Tables) (os : Objects) (p q : Path) → SameWay p.steps q.steps → in_two_members t os p q ≡ false
in_two_members-same_way t os p q w = by_object (p.object == q.object)
  where
    by_object : (b : Bool) → at_members t (if b then option_and_then (λ r. parting t r p.steps q.steps) (first_row t os p) else None) ≡ false
    by_object true = through t (λ r. parting t r p.steps q.steps) (first_row t os p) (parting-same_way t p.steps q.steps w)
    by_object false = refl

specified : (t : Tables) (os : Objects) (p q : Path) → p.object ≡ q.object → same_array p q ≡ true → SameWay p.steps q.steps → is_unspecified t os p q ≡ false
specified t os p q o s w =
    ap (λ b. p.past && not b || apart_from_end q p || in_two_literals os p q || is_within p q || in_two_members t os p q) s
    ∙ ap (λ b. b || apart_from_end q p || in_two_literals os p q || is_within p q || in_two_members t os p q) (and-false p.past)
    ∙ ap (λ b. q.past && not b || in_two_literals os p q || is_within p q || in_two_members t os p q) (sym (same_array-swap p q) ∙ s)
    ∙ ap (λ b. b || in_two_literals os p q || is_within p q || in_two_members t os p q) (and-false q.past)
    ∙ ap (λ b. not b && in_literal os p && in_literal os q || is_within p q || in_two_members t os p q) (eq-eqb p.object q.object o)
    ∙ ap (λ b. (p.object == q.object) && (b || goes_on q.steps p.steps) || in_two_members t os p q) (goes_on-as_long p.steps q.steps (as_long p.steps q.steps w))
    ∙ ap (λ b. (p.object == q.object) && b || in_two_members t os p q) (goes_on-as_long q.steps p.steps (sym (as_long p.steps q.steps w)))
    ∙ ap (λ b. b || in_two_members t os p q) (and-false (p.object == q.object))
    ∙ in_two_members-same_way t os p q w

moved_by_nothing : (k m : ℕ) (i : ℤ) → pos k +ℤ i ≡ pos m → k ≡ m → i ≡ pos 0
moved_by_nothing k m i e s = sym (+ℤ-neg_ℤ_cancel i (pos k)) ∙ ap (λ z. z -ℤ pos k) (+ℤ_comm i (pos k) ∙ e ∙ ap pos (sym s)) ∙ +ℤ_invr (pos k)

pub add-unequal : (t : Tables) (os : Objects) (p q : Path) (i : ℤ) → Knows t os p → add t os p i ≡ Ok q → (i ≡ pos 0 → ⊥) → equal t os p q ≡ Ok false
add-unequal t os p q i k e n =
    let m = reached t os p q i k e in
    let differ : same_path p q ≡ false = false_from_ne_true (same_path p q) (λ h. n (moved_by_nothing (spot p).index m.index i m.is_sum (ap (λ (w : Path). (spot w).index) (same_path-true p q h) ∙ ap (λ (x : Spot). x.index) m.spot_is))) in
    ap (λ b. if b then Ok true else if is_unspecified t os p q then Err rule.UnspecifiedCompare else Ok false) differ
    ∙ ap (λ b. if b then Err rule.UnspecifiedCompare else Ok false)
    (specified t os p q (ap (λ (w : Path). w.object) m.is_place) (same_array-swap p q ∙ add-same_array t os p q i k e) (same_way t os p q i (seat t os p k) m))

-- order and distance in one array

below_sum : (k m : ℕ) (i : ℤ) → pos k +ℤ i ≡ pos m → nat_lt k m ≡ int_lt (pos 0) i
below_sum k m i e = same_tests (nat_lt k m) (int_lt (pos 0) i)
    (λ h. let l : k < m = ltb-true k m h in true_from_ne_false (int_lt (pos 0) i) (λ f. omega (arith, ints)))
    (λ h. lt-ltb k m (omega (arith, ints)))

pub add-order : (t : Tables) (os : Objects) (p q : Path) (i : ℤ) → Knows t os p → add t os p i ≡ Ok q → less t os p q ≡ Ok (int_lt (pos 0) i)
add-order t os p q i k e =
    let m = reached t os p q i k e in
    ap (λ b. if b || is_dangling os q then Err rule.Dangling else if same_array p q then Ok (nat_lt (spot p).index (spot q).index) else tail) m.lives
    ∙ ap (λ b. if b then Err rule.Dangling else if same_array p q then Ok (nat_lt (spot p).index (spot q).index) else tail) (ap (λ i. is_dangling os (place_at i q.steps q.past)) (sym (ap (λ (w : Path). w.object) m.is_place)) ∙ m.lives)
    ∙ ap (λ b. if b then Ok (nat_lt (spot p).index (spot q).index) else tail) (same_array-swap p q ∙ add-same_array t os p q i k e)
    ∙ ap (λ (x : Spot). Ok (nat_lt (spot p).index x.index)) m.spot_is
    ∙ ap Ok (below_sum (spot p).index m.index i m.is_sum)
  where
    tail : Result Bool Rule
    tail = if p.past || q.past then Err rule.UnspecifiedCompare else or_unspecified (option_and_then (part_before t) (parts_at t os p q))

distance-ok : (os : Objects) (p q : Path) (z : ℤ) → distance os p q ≡ Ok z → (is_dangling os p ≡ false) × (is_dangling os q ≡ false) × (same_array p q ≡ true) × (pos (spot p).index -ℤ pos (spot q).index ≡ z)
distance-ok os p q z e = by_tests (is_dangling os p) (is_dangling os q) (same_array p q) e
  where
    by_tests : (a b c : Bool) → ◌≡◌ {A = Result ℤ Rule} (if a || b then Err rule.Dangling else if c then Ok (pos (spot p).index -ℤ pos (spot q).index) else Err rule.PointerDistance) (Ok z)
        → (a ≡ false) × (b ≡ false) × (c ≡ true) × (pos (spot p).index -ℤ pos (spot q).index ≡ z)
    by_tests true b c e = absurd (cc)
    by_tests false true c e = absurd (cc)
    by_tests false false true e = (refl, refl, refl, ok_inj (pos (spot p).index -ℤ pos (spot q).index) z e)
    by_tests false false false e = absurd (cc)

pub distance-add : (t : Tables) (os : Objects) (p q : Path) (i : ℤ) → Knows t os p → Knows t os q → distance os q p ≡ Ok i → add t os p i ≡ Ok q
distance-add t os p q i kp kq e =
    let d = distance-ok os q p i e in
    let first = and-left ((q.object == p.object) && same_bool (spot q).many (spot p).many) (same_steps (spot q).array (spot p).array) d.2 in
    let object : q.object ≡ p.object = eqb-true q.object p.object (and-left (q.object == p.object) (same_bool (spot q).many (spot p).many) first) in
    let many : (spot q).many ≡ (spot p).many = same_bool-true (spot q).many (spot p).many (and-right (q.object == p.object) (same_bool (spot q).many (spot p).many) first) in
    let array : (spot q).array ≡ (spot p).array = same_steps-true (spot q).array (spot p).array (and-right ((q.object == p.object) && same_bool (spot q).many (spot p).many) (same_steps (spot q).array (spot p).array) d.2) in
    let x : spot q ≡ with_index (spot p) (spot q).index = ap (λ a. record { array = a; many = (spot q).many; index = (spot q).index }) array ∙ ap (λ b. record { array = (spot p).array; many = b; index = (spot q).index }) many in
    let count : count_at t os q ≡ count_at t os p = ap (λ (x : Spot). count_by_spot (first_row t os q) t x) x ∙ ap (λ i. count_by_spot (first_row t os (place_at i p.steps p.past)) t (spot p)) object in
    let o = own t os q kq in
    let sum : pos (spot p).index +ℤ i ≡ pos (spot q).index = +ℤ_comm (pos (spot p).index) i ∙ ap (λ z. z +ℤ pos (spot p).index) (sym d.3) ∙ -ℤ-+ℤ_cancel (pos (spot q).index) (pos (spot p).index) in
    let here : at_index p (count_at t os p) (spot q).index ≡ q =
    ap (λ n. at_index p n (spot q).index) (sym count) ∙ ap (λ (w : Spot). at_spot p.object w (count_at t os q) (spot q).index) (sym x) ∙ ap (λ w. at_spot w (spot q) (count_at t os q) (spot q).index) (sym object) ∙ o.itself in
    not_dangling t os p i d.1
    ∙ ap (λ z. index_or_range p (count_at t os p) (index_within (count_at t os p) z)) sum
    ∙ ap (index_or_range p (count_at t os p)) (within-pos (count_at t os p) (spot q).index (subst (λ n. (spot q).index ≤ n) count o.within))
    ∙ ap Ok here
