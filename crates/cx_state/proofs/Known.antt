-- Which places stay known, and which steps give known places.
use Rattle.std.proofs.Common.{◌≡◌, ℕ, zero, suc, ◌<◌, ◌≤◌, ◌==◌, Bool, true, false, ◌||◌, List, [], ◌∷◌, ◌++◌, length, take, Option, None, Some, Result, Ok, Err, inl, inr, refl, sym, ap, subst, ◌∙◌, slice_get, arith, eqb-true, eq-eqb, reverse, ℤ, pos, negsuc, if◌then◌else◌}
use Rattle.std.proofs.lemmas.Bool.{cases_Bool, eqb-false, lt-ltb, leb-true}
use Rattle.std.specs.Prelude.{cond, nat_lt, nat_le, ◌+ℤ◌, is_some, unwrap_or, option_map, option_and_then}
use Rattle.std.specs.List.{list_any, find}
use Rattle.cx_base.specs.declared.rule.Rule.{Rule}
use Rattle.cx_base.specs.declared.rule.Rule.TheVariants as rule
use Rattle.cx_base.specs.declared.limits.Limits.{Limits}
use Rattle.cx_type_defs.specs.declared.ids.Step.{Step}
use Rattle.cx_type_defs.specs.declared.ids.Step.TheVariants as step
use Rattle.cx_type_defs.specs.declared.ids.TypeId.{TypeId}
use Rattle.cx_type_defs.specs.declared.ids.ClassId.{ClassId}
use Rattle.cx_type_defs.specs.declared.kind.TypeRow.{TypeRow}
use Rattle.cx_type_defs.specs.declared.kind.TypeKind.{TypeKind}
use Rattle.cx_type_defs.specs.declared.kind.TypeKind.TheVariants as kind
use Rattle.cx_type_defs.specs.declared.decl.Field.{Field}
use Rattle.cx_type_defs.specs.declared.decl.ClassDecl.{ClassDecl}
use Rattle.cx_type_defs.specs.declared.decl.ClassKey.{ClassKey}
use Rattle.cx_type_defs.specs.declared.decl.ClassKey.TheVariants as key
use Rattle.cx_type_defs.specs.Tables.{Tables, no_types, base_of, field_of, changed_at}
use Rattle.cx_type_defs.proofs.Lists.{some_inj, option_and_then-some, option_map-some, slice_get-more, slice_get-last}
use Rattle.std.proofs.lemmas.Option.{slice_get_cases}
use Rattle.cx_state.specs.declared.kind.Birth.{Birth}
use Rattle.cx_state.specs.declared.kind.Scalar.{Scalar}
use Rattle.cx_state.specs.declared.kind.Scalar.TheVariants as scalar
use Rattle.cx_state.specs.Objects.{Path, Tree, Leaf, Row, Class, Union, Active, Object, Objects, below, at, put}
use Rattle.cx_state.specs.Places.{element, base_row, kind_part, row_part, row_below, whole_kind, root_row, Spot, spot, elements, spot_row, row_of, is_place}
use Rattle.cx_state.specs.Conditions as on
use Rattle.cx_state.specs.Steps.{unless, deeper, to_field, to_base, ends_at, to_elem, scalar_of, load, given_up, release, settle, cut, whole_path, outer, with_place, dynamic_class, Write, access_of, write}
use Rattle.cx_state.specs.Pointers.{first_row, count_at, at_index, index_within, moved, is_dangling, add}
use Rattle.cx_state.specs.Counts.{Request, new_object, passes_limit, limit_order, make, next_place}
use Rattle.cx_state.specs.Forms.{MayHold, Designates, ClassForm, DeclForm, Form, Fit, Knows, KnowsIn}
use Rattle.cx_state.proofs.Spots.{is_some-some, if-true, row_below-one, at_element, at_single, row_of-first, Seat, InArray, Single, seat, place_at, row_of-element, row_of-single, row_of-plain}

-- a step that breaks no rule

pub ok_inj : {A : Type 0} (a x : A) → ◌≡◌ {A = Result A Rule} (Ok a) (Ok x) → a ≡ x
ok_inj a x e = cc

pub unless-ok : {A : Type 0} (b : Option Rule) (a x : A) → unless b a ≡ Ok x → (b ≡ None) × (a ≡ x)
unless-ok None a x e = (refl, ok_inj a x e)
unless-ok (Some r) a x e = absurd (cc)

pub known-row : (t : Tables) (os : Objects) (p : Path) (r : TypeRow) → row_of t os p ≡ Some r → Knows t os p
known-row t os p r e = ap (λ (o : Option TypeRow). is_some o) e

pub known-object : (t : Tables) (os : Objects) (p : Path) → Knows t os p → (o : Object) × (slice_get os p.object ≡ Some o)
known-object t os p k =
    let found = is_some-some (row_of t os p) k in
    let o = option_and_then-some (λ (o : Object). option_and_then (spot_row t p.past (spot p)) (root_row t o)) (slice_get os p.object) found.0 found.1 in
    (o.0, o.1)

-- known places stay known

-- a change of objects that leaves their types
changed_at-root : (t : Tables) (f : Object → Object) → ((o : Object) → root_row t (f o) ≡ root_row t o) → (os : Objects) (i j : ℕ) → option_and_then (root_row t) (slice_get (changed_at f os i) j) ≡ option_and_then (root_row t) (slice_get os j)
changed_at-root t f h [] i j = refl
changed_at-root t f h (o ∷ os) zero zero = h o
changed_at-root t f h (o ∷ os) zero (suc j) = refl
changed_at-root t f h (o ∷ os) (suc i) zero = refl
changed_at-root t f h (o ∷ os) (suc i) (suc j) = changed_at-root t f h os i j

pub row_of-changed_at : (t : Tables) (f : Object → Object) → ((o : Object) → root_row t (f o) ≡ root_row t o) → (os : Objects) (i : ℕ) (q : Path) → row_of t (changed_at f os i) q ≡ row_of t os q
row_of-changed_at t f h os i q = row_of-first t (changed_at f os i) q ∙ ap (option_and_then (spot_row t q.past (spot q))) (changed_at-root t f h os i q.object) ∙ sym (row_of-first t os q)

pub row_of-put : (t : Tables) (f : Tree → Tree) (os : Objects) (p q : Path) → row_of t (put f os p) q ≡ row_of t os q
row_of-put t f os p q = row_of-changed_at t _ (λ o. refl) os p.object q

is_place-same : (t : Tables) (os now : Objects) (q : Path) → row_of t now q ≡ row_of t os q → Knows t os q → Knows t now q
is_place-same t os now q e k = ap (λ (o : Option TypeRow). is_some o) e ∙ k

pub put-knows : (t : Tables) (os : Objects) (f : Tree → Tree) (p q : Path) → Knows t os q → Knows t (put f os p) q
put-knows t os f p q k = is_place-same t os (put f os p) q (row_of-put t f os p q) k

unless-knows : (t : Tables) (b : Option Rule) (os changed now : Objects) (q : Path) → Knows t changed q → unless b changed ≡ Ok now → Knows t now q
unless-knows t b os changed now q k e = subst (λ w. Knows t w q) (unless-ok b changed now e).1 k

pub write-knows : (t : Tables) (os now : Objects) (p q : Path) (w : Write) → write t os p w ≡ Ok now → Knows t os q → Knows t now q
write-knows t os now p q w e k = let c = unless-ok (on.broken t os p (access_of w)) _ now e in subst (λ w. Knows t w q) c.1 (put-knows t os _ p q k)

pub release-knows : (t : Tables) (os now : Objects) (p q : Path) → release os p ≡ Ok now → Knows t os q → Knows t now q
release-knows t os now p q e k =
    unless-knows t (on.broken no_types os p on.Release) os (changed_at given_up os p.object) now q (is_place-same t os (changed_at given_up os p.object) q (row_of-changed_at t given_up (λ o. refl) os p.object q) k) e

pub settle-knows : (t : Tables) (os : Objects) (p q : Path) (b : Birth) → Knows t os q → Knows t (settle os p b) q
settle-knows t os p q b k = is_place-same t os (settle os p b) q (row_of-changed_at t _ (λ o. refl) os p.object q) k

-- objects that stand stay where they are
same_object-knows : (t : Tables) (os now : Objects) (q : Path) → ((o : Object) → slice_get os q.object ≡ Some o → slice_get now q.object ≡ Some o) → Knows t os q → Knows t now q
same_object-knows t os now q h k =
    let o = known-object t os q k in
    let f = option_and_then (λ (o : Object). option_and_then (spot_row t q.past (spot q)) (root_row t o)) in
    is_place-same t os now q (ap f (h o.0 o.1) ∙ sym (ap f o.1)) k

pub make-ok : (t : Tables) (limits : Limits) (os now : Objects) (q : Request) → make t limits os q ≡ Ok now → os ++ new_object t q ∷ [] ≡ now
make-ok t limits os now q e = (unless-ok (find (passes_limit t limits os (new_object t q)) limit_order) (os ++ new_object t q ∷ []) now e).1

pub make-knows : (t : Tables) (limits : Limits) (os now : Objects) (made : Request) (q : Path) → make t limits os made ≡ Ok now → Knows t os q → Knows t now q
make-knows t limits os now made q e k =
    subst (λ w. Knows t w q) (make-ok t limits os now made e) (same_object-knows t os (os ++ new_object t made ∷ []) q (λ o g. slice_get-more os (new_object t made ∷ []) q.object o g) k)

pub slice_get-take : {A : Type 0} (xs : List A) (n i : ℕ) → i < n → slice_get (take n xs) i ≡ slice_get xs i
slice_get-take xs zero i h = absurd (omega arith)
slice_get-take [] (suc n) i h = refl
slice_get-take (x ∷ xs) (suc n) zero h = refl
slice_get-take (x ∷ xs) (suc n) (suc i) h = slice_get-take xs n i (omega arith)

pub cut-knows : (t : Tables) (os : Objects) (mark : ℕ) (q : Path) → q.object < mark → Knows t os q → Knows t (cut os mark) q
cut-knows t os mark q h k = same_object-knows t os (cut os mark) q (λ o g. slice_get-take os mark q.object h ∙ g) k

pub plain-knows : (t : Tables) (os : Objects) (o : ℕ) (ss : List Step) (w r : TypeRow) → option_and_then (root_row t) (slice_get os o) ≡ Some w → row_below t w ss ≡ Some r → Knows t os (place_at o ss false)
plain-knows t os o ss w r ew er = known-row t os (place_at o ss false) r (row_of-plain t os o ss ∙ ap (option_and_then (λ (w : TypeRow). row_below t w ss)) ew ∙ er)

-- the place of a new object

abbrev whole_row : Object → TypeRow → TypeRow
whole_row o r = record { kind = whole_kind o.count o.ty r.kind; konst = o.konst || r.konst }

-- there is an item at a place within the list
some_at : {A : Type 0} (xs : List A) (i : ℕ) → i < length xs → (x : A) × (slice_get xs i ≡ Some x)
some_at xs i h = elim (slice_get_cases xs i).1 as (λ _. (x : _) × (slice_get xs i ≡ Some x)) [ inl w ↦ (w.0, w.2) | inr w ↦ (let n = w.0 in absurd (omega arith)) ]

root_row-some : (t : Tables) (o : Object) → o.ty.0 < length t.rows → (w : TypeRow) × (root_row t o ≡ Some w)
root_row-some t o h = let r = some_at t.rows o.ty.0 h in (whole_row o r.0, ap (option_map (whole_row o)) r.1)

pub next_place-knows : (t : Tables) (limits : Limits) (os now : Objects) (made : Request) → made.ty.0 < length t.rows → make t limits os made ≡ Ok now → Knows t now (next_place os)
next_place-knows t limits os now made h e =
    let w = root_row-some t (new_object t made) h in
    subst (λ x. Knows t x (next_place os)) (make-ok t limits os now made e)
    (plain-knows t (os ++ new_object t made ∷ []) (length os) [] w.0 w.0 (ap (option_and_then (root_row t)) (slice_get-last os (new_object t made)) ∙ w.1) refl)

-- places of parts

not_past : (t : Tables) (o : Object) (p : Path) (a : on.Access) (rest : List Rule) → find (on.holds t o p a) (rule.Dangling ∷ rule.PastEnd ∷ rest) ≡ None → p.past ≡ false
not_past t o p a rest e = second o.released p.past (find (on.holds t o p a) rest) e
  where
    second : (a b : Bool) (m : Option Rule) → cond a (Some rule.Dangling) (cond b (Some rule.PastEnd) m) ≡ None → b ≡ false
    second true b m e = absurd (cc)
    second false true m e = absurd (cc)
    second false false m e = refl

-- an access that asks whether the place is past an end
pub data Asks (a : on.Access) : Type 0 where
  Second : (rest : List Rule) → on.order a ≡ rule.Dangling ∷ rule.PastEnd ∷ rest → Asks a

pub unbroken-not_past : (t : Tables) (os : Objects) (p : Path) (a : on.Access) → Asks a → Knows t os p → on.broken t os p a ≡ None → p.past ≡ false
unbroken-not_past t os p a (Second rest s) k e =
    let o = known-object t os p k in
    not_past t o.0 p a rest (sym (ap (option_and_then (λ (x : Object). find (on.holds t x p a) (on.order a))) o.1 ∙ ap (find (on.holds t o.0 p a)) s) ∙ e)

-- the types on the way to a place without the mark
pub plain-rows : (t : Tables) (os : Objects) (p : Path) (r : TypeRow) → p.past ≡ false → row_of t os p ≡ Some r → (w : TypeRow) × (option_and_then (root_row t) (slice_get os p.object) ≡ Some w) × (row_below t w p.steps ≡ Some r)
plain-rows t os p r n e =
    let plain = sym (row_of-plain t os p.object p.steps) ∙ ap (λ b. row_of t os (place_at p.object p.steps b)) (sym n) ∙ e in
    option_and_then-some (λ (w : TypeRow). row_below t w p.steps) (option_and_then (root_row t) (slice_get os p.object)) r plain

-- the type of a part's place
pub part-row : (t : Tables) (os : Objects) (p : Path) (s : Step) (r : TypeRow) → p.past ≡ false → row_of t os p ≡ Some r → row_of t os (deeper p s false) ≡ row_part t r s
part-row t os p s r n e =
    let rows = plain-rows t os p r n e in
    row_of-plain t os p.object (p.steps ++ s ∷ [])
    ∙ ap (option_and_then (λ (w : TypeRow). row_below t w (p.steps ++ s ∷ []))) rows.1
    ∙ row_below-one t rows.0 p.steps s
    ∙ ap (option_and_then (λ (q : TypeRow). row_part t q s)) rows.2

pub to_field-row : (t : Tables) (os : Objects) (p q : Path) (i : ℕ) (r : TypeRow) (c : ClassId) (f : Field) → row_of t os p ≡ Some r → r.kind ≡ kind.Class c → field_of t c i ≡ Some f → to_field t os p i ≡ Ok q → row_of t os q ≡ slice_get t.rows f.ty.0
to_field-row t os p q i r c f er ek ef e =
    let ok = unless-ok (on.broken t os p on.Part) (deeper p (step.Field i) false) q e in
    let n = unbroken-not_past t os p on.Part (Second [] refl) (known-row t os p r er) ok.0 in
    ap (row_of t os) (sym ok.1) ∙ part-row t os p (step.Field i) r n er ∙ ap (λ k. kind_part t r.konst k (step.Field i)) ek ∙ ap (option_and_then (λ (w : Field). slice_get t.rows w.ty.0)) ef

pub to_base-row : (t : Tables) (os : Objects) (p q : Path) (i : ℕ) (r : TypeRow) (c b : ClassId) → row_of t os p ≡ Some r → r.kind ≡ kind.Class c → base_of t c i ≡ Some b → to_base t os p i ≡ Ok q → row_of t os q ≡ Some (base_row b)
to_base-row t os p q i r c b er ek eb e =
    let ok = unless-ok (on.broken t os p on.Part) (deeper p (step.Base i) false) q e in
    let n = unbroken-not_past t os p on.Part (Second [] refl) (known-row t os p r er) ok.0 in
    ap (row_of t os) (sym ok.1) ∙ part-row t os p (step.Base i) r n er ∙ ap (λ k. kind_part t r.konst k (step.Base i)) ek ∙ ap (option_map base_row) eb

ends-seat : (n i : ℕ) → i ≤ n → (if n == i then i == n else nat_lt i n) ≡ true
ends-seat n i h = elim (cases_Bool (n == i)) as (λ _. (if n == i then i == n else nat_lt i n) ≡ true) [
  | inl e ↦ ap (λ b. if b then i == n else nat_lt i n) e ∙ eq-eqb i n (sym (eqb-true n i e))
  | inr e ↦ ap (λ b. if b then i == n else nat_lt i n) e ∙ lt-ltb i n (let d : n ≡ i → ⊥ = eqb-false n i e in omega arith)
]

pub to_elem-row : (t : Tables) (os : Objects) (p q : Path) (i : ℕ) (r : TypeRow) (of : TypeId) (n : ℕ) (x : TypeRow) → row_of t os p ≡ Some r → r.kind ≡ kind.Array of n → slice_get t.rows of.0 ≡ Some x → i ≤ n → to_elem t os p i ≡ Ok q → row_of t os q ≡ Some (element r.konst x)
to_elem-row t os p q i r of n x er ek ex le e =
    let ok = unless-ok (on.broken t os p on.Part) (deeper p (step.Elem i) (ends_at i (row_of t os p))) q e in
    let np = unbroken-not_past t os p on.Part (Second [] refl) (known-row t os p r er) ok.0 in
    let rows = plain-rows t os p r np er in
    let en : elements r.kind ≡ Some (n, of) = ap elements ek in
    let mark : ends_at i (row_of t os p) ≡ (n == i) = ap (ends_at i) er ∙ ap (λ (m : Option (ℕ × TypeId)). unwrap_or (option_map (λ (c : ℕ × TypeId). c.0 == i) m) false) en in
    ap (row_of t os) (sym (ap (deeper p (step.Elem i)) (sym mark) ∙ ok.1)) ∙ row_of-element t os p.object p.steps i (n == i) rows.0 r n of x rows.1 rows.2 en ex (ends-seat n i le)

pub to_field-knows : (t : Tables) (os : Objects) (p q : Path) (i : ℕ) (r : TypeRow) (c : ClassId) (f : Field) → row_of t os p ≡ Some r → r.kind ≡ kind.Class c → field_of t c i ≡ Some f → f.ty.0 < length t.rows → to_field t os p i ≡ Ok q → Knows t os q
to_field-knows t os p q i r c f er ek ef h e = let x = some_at t.rows f.ty.0 h in known-row t os q x.0 (to_field-row t os p q i r c f er ek ef e ∙ x.1)

pub to_base-knows : (t : Tables) (os : Objects) (p q : Path) (i : ℕ) (r : TypeRow) (c b : ClassId) → row_of t os p ≡ Some r → r.kind ≡ kind.Class c → base_of t c i ≡ Some b → to_base t os p i ≡ Ok q → Knows t os q
to_base-knows t os p q i r c b er ek eb e = known-row t os q (base_row b) (to_base-row t os p q i r c b er ek eb e)

pub to_elem-knows : (t : Tables) (os : Objects) (p q : Path) (i : ℕ) (r : TypeRow) (of : TypeId) (n : ℕ) → row_of t os p ≡ Some r → r.kind ≡ kind.Array of n → of.0 < length t.rows → i ≤ n → to_elem t os p i ≡ Ok q → Knows t os q
to_elem-knows t os p q i r of n er ek h le e = let x = some_at t.rows of.0 h in known-row t os q (element r.konst x.0) (to_elem-row t os p q i r of n x.0 er ek x.1 le e)

-- places of enclosing objects

pub find-true : {A : Type 0} (test : A → Bool) (xs : List A) (x : A) → find test xs ≡ Some x → test x ≡ true
find-true test [] x e = absurd (cc)
find-true test (y ∷ ys) x e = elim (cases_Bool (test y)) as (λ _. test x ≡ true) [
  | inl h ↦ (let s : Some y ≡ Some x = sym (ap (λ b. cond b (Some y) (find test ys)) h) ∙ e in sym (ap test (some_inj y x s)) ∙ h)
  | inr h ↦ find-true test ys x (sym (ap (λ b. cond b (Some y) (find test ys)) h) ∙ e)
]

class_below-some : (t : Tables) (o : Object) (ss : List Step) (c : ClassId) → on.class_below t o ss ≡ Some c → (w : TypeRow) × (r : TypeRow) × (root_row t o ≡ Some w) × (row_below t w ss ≡ Some r)
class_below-some t o ss c e =
    let w = option_and_then-some (λ (r : TypeRow). option_and_then (λ (q : TypeRow). on.class_of q.kind) (row_below t r ss)) (root_row t o) c e in
    let r = option_and_then-some (λ (q : TypeRow). on.class_of q.kind) (row_below t w.0 ss) c w.2 in
    (w.0, r.0, w.1, r.1)

pub class_below-knows : (t : Tables) (os : Objects) (p : Path) (o : Object) (ss : List Step) (c : ClassId) → slice_get os p.object ≡ Some o → on.class_below t o ss ≡ Some c → Knows t os (whole_path p ss)
class_below-knows t os p o ss c eo e = let i = class_below-some t o ss c e in plain-knows t os p.object ss i.0 i.1 (ap (option_and_then (root_row t)) eo ∙ i.2) i.3

any_listed : {A : Type 0} (test : A → Bool) (o : Option A) → list_any test (on.listed o) ≡ true → (a : A) × (o ≡ Some a)
any_listed test None e = absurd (cc)
any_listed test (Some a) e = (a, refl)

outer_in-class : (t : Tables) (o : Object) (c : ClassId) (ss us : List Step) → on.outer_in t o c ss ≡ Some us → (d : ClassId) × (on.class_below t o us ≡ Some d)
outer_in-class t o c ss us e =
    any_listed (λ (d : ClassId). d.0 == c.0) (on.class_below t o us) (find-true (λ us. list_any (λ (d : ClassId). d.0 == c.0) (on.listed (on.class_below t o us))) (reverse (on.enclosing ss)) us e)

pub outer-knows : (t : Tables) (os : Objects) (p q : Path) (c : ClassId) → Knows t os p → outer t os p c ≡ Ok q → Knows t os q
outer-knows t os p q c k e =
    let ok = unless-ok (on.broken t os p (on.Outer c)) (whole_path p (unwrap_or (option_and_then (λ (o : Object). on.outer_in t o c p.steps) (slice_get os p.object)) p.steps)) q e in
    let o = known-object t os p k in
    let np = unbroken-not_past t os p (on.Outer c) (Second (rule.DownCast ∷ []) refl) k ok.0 in
    let here : Knows t os (whole_path p p.steps) = ap (λ b. is_place t os (place_at p.object p.steps b)) (sym np) ∙ k in
    subst (Knows t os) (ap (λ (x : Option Object). whole_path p (unwrap_or (option_and_then (λ (o : Object). on.outer_in t o c p.steps) x) p.steps)) (sym o.1) ∙ ok.1) (found o.0 o.1 here (on.outer_in t o.0 c p.steps) refl)
  where
    found : (o : Object) → slice_get os p.object ≡ Some o → Knows t os (whole_path p p.steps) → (m : Option (List Step)) → on.outer_in t o c p.steps ≡ m → Knows t os (whole_path p (unwrap_or m p.steps))
    found o eo here None em = here
    found o eo here (Some us) em = let d = outer_in-class t o c p.steps us em in class_below-knows t os p o us d.0 eo d.1

pub dynamic_in-class : (t : Tables) (o : Object) (ss : List Step) (f : ClassId × List Step) → on.dynamic_in t o ss ≡ Some f → on.class_below t o f.1 ≡ Some f.0
dynamic_in-class t o ss f e =
    let us = option_and_then-some (λ us. option_map (λ c. (c, us)) (on.class_below t o us)) (find (on.decides o) (on.enclosing ss)) f e in
    let d = option_map-some (λ c. (c, us.0)) (on.class_below t o us.0) f us.2 in
    subst (λ (g : ClassId × List Step). on.class_below t o g.1 ≡ Some g.0) d.2 d.1

pub dynamic_class-knows : (t : Tables) (os : Objects) (p q : Path) (c : ClassId) → dynamic_class t os p ≡ Ok (Some (c, q)) → Knows t os q
dynamic_class-knows t os p q c e =
    let ok = unless-ok (on.broken t os p on.Dynamic) (option_map (with_place p) (option_and_then (λ (o : Object). on.dynamic_in t o p.steps) (slice_get os p.object))) (Some (c, q)) e in
    let found = option_map-some (with_place p) (option_and_then (λ (o : Object). on.dynamic_in t o p.steps) (slice_get os p.object)) (c, q) ok.1 in
    let o = option_and_then-some (λ (o : Object). on.dynamic_in t o p.steps) (slice_get os p.object) found.0 found.1 in
    let here : Knows t os (with_place p found.0).1 = class_below-knows t os p o.0 found.0.1 found.0.0 o.1 (dynamic_in-class t o.0 p.steps found.0 o.2) in
    subst (λ (w : ClassId × Path). Knows t os w.1) found.2 here

-- places that pointers move to

pub index_within-some : (count : ℕ) (z : ℤ) (i : ℕ) → index_within count z ≡ Some i → (z ≡ pos i) × (i ≤ count)
index_within-some count (pos k) i e = let b = if-true (nat_le k count) (Some k) i e in let s = some_inj k i b.1 in (ap pos s, let l = leb-true k count b.0 in omega arith)
index_within-some count (negsuc k) i e = absurd (cc)

pub moved-ok : (p q : Path) (count : ℕ) (by : ℤ) → moved p count by ≡ Ok q → (i : ℕ) × (index_within count (pos (spot p).index +ℤ by) ≡ Some i) × (at_index p count i ≡ q)
moved-ok p q count by e = found (index_within count (pos (spot p).index +ℤ by)) e
  where
    found : (m : Option ℕ) → ◌≡◌ {A = Result Path Rule} (unwrap_or (option_map (λ i. Ok (at_index p count i)) m) (Err rule.PointerRange)) (Ok q) → (i : ℕ) × (m ≡ Some i) × (at_index p count i ≡ q)
    found None e = absurd (cc)
    found (Some i) e = (i, refl, ok_inj (at_index p count i) q e)

pub add-ok : (t : Tables) (os : Objects) (p q : Path) (by : ℤ) → add t os p by ≡ Ok q → (is_dangling os p ≡ false) × (moved p (count_at t os p) by ≡ Ok q)
add-ok t os p q by e = not_dangling (is_dangling os p) e
  where
    not_dangling : (b : Bool) → (if b then Err rule.Dangling else moved p (count_at t os p) by) ≡ Ok q → (b ≡ false) × (moved p (count_at t os p) by ≡ Ok q)
    not_dangling true e = absurd (cc)
    not_dangling false e = (refl, e)

-- how many elements the array has that a known place is in

pub count_at-element : (t : Tables) (os : Objects) (p : Path) (us : List Step) (i : ℕ) (r a : TypeRow) (n : ℕ) (of : TypeId) → spot p ≡ at_element us i → first_row t os p ≡ Some r → row_below t r us ≡ Some a → elements a.kind ≡ Some (n, of) → count_at t os p ≡ n
count_at-element t os p us i r a n of es er ea en =
    ap (λ (x : Spot). if x.many then unwrap_or (option_map (λ (e : ℕ × TypeId). e.0) (option_and_then (λ (r : TypeRow). elements r.kind) (option_and_then (λ r. row_below t r x.array) (first_row t os p)))) 0 else 1) es
    ∙ ap (λ (x : Option TypeRow). unwrap_or (option_map (λ (e : ℕ × TypeId). e.0) (option_and_then (λ (r : TypeRow). elements r.kind) (option_and_then (λ r. row_below t r us) x))) 0) er
    ∙ ap (λ (x : Option TypeRow). unwrap_or (option_map (λ (e : ℕ × TypeId). e.0) (option_and_then (λ (r : TypeRow). elements r.kind) x)) 0) ea
    ∙ ap (λ (x : Option (ℕ × TypeId)). unwrap_or (option_map (λ (e : ℕ × TypeId). e.0) x) 0) en

pub count_at-single : (t : Tables) (os : Objects) (p : Path) → spot p ≡ at_single p.steps p.past → count_at t os p ≡ 1
count_at-single t os p es = ap (λ (x : Spot). if x.many then unwrap_or (option_map (λ (e : ℕ × TypeId). e.0) (option_and_then (λ (r : TypeRow). elements r.kind) (option_and_then (λ r. row_below t r x.array) (first_row t os p)))) 0 else 1) es

pub seat-index : (n i : ℕ) → i ≤ n → (if i == n then i == n else nat_lt i n) ≡ true
seat-index n i h = elim (cases_Bool (i == n)) as (λ _. (if i == n then i == n else nat_lt i n) ≡ true) [
  | inl e ↦ ap (λ b. if b then b else nat_lt i n) e
  | inr e ↦ ap (λ b. if b then b else nat_lt i n) e ∙ lt-ltb i n (let d : i ≡ n → ⊥ = eqb-false i n e in omega arith)
]

pub at_index-knows : (t : Tables) (os : Objects) (p : Path) (i : ℕ) → i ≤ count_at t os p → Seat t os p → Knows t os (at_index p (count_at t os p) i)
at_index-knows t os p i h (InArray us k es sp r er a ea n of en e ee b) =
    let c = count_at-element t os p us k r a n of sp er ea en in
    let l : i ≤ n = subst (λ m. i ≤ m) c h in
    subst (Knows t os) (ap (λ (x : Spot). place_at p.object (if x.many then x.array ++ step.Elem i ∷ [] else x.array) (i == n)) (sym sp) ∙ ap (λ m. at_index p m i) (sym c))
    (known-row t os (place_at p.object (us ++ step.Elem i ∷ []) (i == n)) _ (row_of-element t os p.object us i (i == n) r a n of e er ea en ee (seat-index n i l)))
at_index-knows t os p i h (Single sp r er a ea) =
    let c = count_at-single t os p (sp p.past) in
    subst (Knows t os) (ap (λ (x : Spot). place_at p.object (if x.many then x.array ++ step.Elem i ∷ [] else x.array) (i == 1)) (sym (sp p.past)) ∙ ap (λ m. at_index p m i) (sym c))
    (known-row t os (place_at p.object p.steps (i == 1)) a (row_of-single t os p.object p.steps (i == 1) r a er sp ea))

pub add-knows : (t : Tables) (os : Objects) (p q : Path) (by : ℤ) → Knows t os p → add t os p by ≡ Ok q → Knows t os q
add-knows t os p q by k e =
    let m = add-ok t os p q by e in
    let i = moved-ok p q (count_at t os p) by m.1 in
    let w = index_within-some (count_at t os p) (pos (spot p).index +ℤ by) i.0 i.1 in
    subst (Knows t os) i.2 (at_index-knows t os p i.0 w.1 (seat t os p k))

-- places that scalars hold

pub designates-knows : (t : Tables) (os : Objects) (to : TypeId) (p : Path) → Designates t os to p → Knows t os p
designates-knows t os to p d = known-row t os p d.found d.is_found

pub may_hold-knows : (t : Tables) (os : Objects) (k : TypeKind) (v : Scalar Path) → MayHold t os k v → KnowsIn t os v
may_hold-knows t os (kind.Pointer to) (scalar.Place p) h = designates-knows t os to p h
may_hold-knows t os (kind.Reference to) (scalar.Place p) h = designates-knows t os to p h
may_hold-knows t os kind.Void (scalar.Place p) h = absurd h
may_hold-knows t os kind.Nullptr (scalar.Place p) h = absurd h
may_hold-knows t os (kind.Int ty) (scalar.Place p) h = absurd h
may_hold-knows t os (kind.Enum e) (scalar.Place p) h = absurd h
may_hold-knows t os (kind.Array of n) (scalar.Place p) h = absurd h
may_hold-knows t os (kind.Class c) (scalar.Place p) h = absurd h
may_hold-knows t os k scalar.Indeterminate h = tt
may_hold-knows t os k scalar.Null h = tt
may_hold-knows t os k (scalar.Int i) h = tt

-- what a read of a known place gives

leaf-form : (t : Tables) (os : Objects) (k : TypeKind) (v : Scalar Path) → Form t os k (Leaf v) → MayHold t os k v
leaf-form t os kind.Void v h = absurd h
leaf-form t os (kind.Array of n) v h = absurd h
leaf-form t os (kind.Class c) v h = by_class (slice_get t.classes c.0) h
  where
    by_class : (d : Option ClassDecl) → DeclForm t d (Leaf v) → MayHold t os (kind.Class c) v
    by_class None h = absurd h
    by_class (Some d) h = by_key d.key h.form
      where
        by_key : (k : ClassKey) → ClassForm k h.body (Leaf v) → MayHold t os (kind.Class c) v
        by_key key.Union f = absurd f
        by_key key.Struct f = absurd f
        by_key key.Class f = absurd f
leaf-form t os kind.Nullptr v h = h
leaf-form t os (kind.Int ty) v h = h
leaf-form t os (kind.Enum e) v h = h
leaf-form t os (kind.Pointer to) v h = h
leaf-form t os (kind.Reference to) v h = h

-- what a scalar at a known place holds is known
pub held-knows : (t : Tables) (os : Objects) (p : Path) (v : Scalar Path) → Fit t os → Knows t os p → p.past ≡ false → at os p ≡ Some (Leaf v) → KnowsIn t os v
held-knows t os p v fit k np e =
    let found = is_some-some (row_of t os p) k in
    let rows = plain-rows t os p found.0 np found.1 in
    let o = option_and_then-some (λ (o : Object). below o.tree p.steps) (slice_get os p.object) (Leaf v) e in
    let fits = fit p.object o.0 o.1 in
    let root : root_row t o.0 ≡ Some rows.0 = sym (ap (option_and_then (root_row t)) o.1) ∙ rows.1 in
    let row : fits.row ≡ rows.0 = some_inj fits.row rows.0 (sym fits.is_row ∙ root) in
    let form = fits.parts p.steps found.0 (Leaf v) (ap (λ w. row_below t w p.steps) row ∙ rows.2) o.2 in
    may_hold-knows t os found.0.kind v (leaf-form t os found.0.kind v form)

pub load-knows : (t : Tables) (os : Objects) (p : Path) (v : Scalar Path) → Fit t os → Knows t os p → load t os p ≡ Ok v → KnowsIn t os v
load-knows t os p v fit k e =
    let ok = unless-ok (on.broken t os p on.Load) (scalar_of (at os p)) v e in
    let np = unbroken-not_past t os p on.Load (Second (rule.NotUsable ∷ rule.InactiveMember ∷ rule.OutOfLifetime ∷ rule.Indeterminate ∷ []) refl) k ok.0 in
    subst (KnowsIn t os) ok.1 (held np (at os p) refl)
  where
    held : p.past ≡ false → (x : Option Tree) → at os p ≡ x → KnowsIn t os (scalar_of x)
    held np (Some (Leaf w)) ex = held-knows t os p w fit k np ex
    held np None ex = tt
    held np (Some (Row xs)) ex = tt
    held np (Some (Class ph bs ms)) ex = tt
    held np (Some Union) ex = tt
    held np (Some (Active m x)) ex = tt
