-- Which type is at a place that one comes to, and that steps leave the types at places as they are.
use Rattle.std.proofs.Common.{◌≡◌, ℕ, ◌<◌, ◌≤◌, ◌==◌, Bool, true, false, ◌&&◌, ◌||◌, not, List, [], ◌∷◌, ◌++◌, map, Option, None, Some, Ok, ◌⊎◌, inl, inr, refl, sym, ap, subst, ◌∙◌, slice_get, eqb-true, reverse, ℤ, pos, if◌then◌else◌}
use Rattle.std.proofs.lemmas.Bool.{cases_Bool}
use Rattle.std.specs.Prelude.{cond, is_some, unwrap_or, option_map, option_and_then, ◌+ℤ◌}
use Rattle.std.specs.List.{list_any, find}
use Rattle.cx_base.specs.declared.rule.Rule.TheVariants as rule
use Rattle.cx_base.specs.declared.limits.Limits.{Limits}
use Rattle.cx_type_defs.specs.declared.ids.Step.{Step}
use Rattle.cx_type_defs.specs.declared.ids.Step.TheVariants as step
use Rattle.cx_type_defs.specs.declared.ids.ClassId.{ClassId}
use Rattle.cx_type_defs.specs.declared.kind.TypeRow.{TypeRow}
use Rattle.cx_type_defs.specs.declared.kind.TypeKind.{TypeKind}
use Rattle.cx_type_defs.specs.declared.kind.TypeKind.TheVariants as kind
use Rattle.cx_type_defs.specs.Tables.{Tables, no_types}
use Rattle.cx_type_defs.proofs.Lists.{some_inj, option_and_then-some, option_map-some, slice_get-more}
use Rattle.cx_state.specs.declared.kind.Birth.{Birth}
use Rattle.cx_state.specs.Objects.{Path, Object, Objects, below}
use Rattle.cx_state.specs.Places.{row_part, kind_part, row_below, root_row, Spot, spot, spot_row, row_of}
use Rattle.cx_state.specs.Conditions as on
use Rattle.cx_state.specs.Steps.{given_up, release, settle, cut, whole_path, outer, with_place, dynamic_class, Write, access_of, write}
use Rattle.cx_state.specs.Pointers.{count_at, at_index, add}
use Rattle.cx_state.specs.Counts.{Request, new_object, make}
use Rattle.cx_state.specs.Forms.{Knows}
use Rattle.cx_state.proofs.Paths.{and-left}
use Rattle.cx_state.proofs.Spots.{Seat, InArray, Single, seat, place_at, row_of-element, row_of-single, row_of-plain}
use Rattle.cx_state.proofs.Known.{unless-ok, known-row, known-object, row_of-changed_at, row_of-put, make-ok, slice_get-take, find-true, plain-rows, Second, unbroken-not_past, dynamic_in-class, count_at-element, count_at-single, seat-index, moved-ok, add-ok, index_within-some}

-- steps leave the types

pub write-types : (t : Tables) (os now : Objects) (p q : Path) (w : Write) → write t os p w ≡ Ok now → row_of t now q ≡ row_of t os q
write-types t os now p q w e = let c = unless-ok (on.broken t os p (access_of w)) _ now e in subst (λ w. row_of t w q ≡ row_of t os q) c.1 (row_of-put t _ os p q)

pub release-types : (t : Tables) (os now : Objects) (p q : Path) → release os p ≡ Ok now → row_of t now q ≡ row_of t os q
release-types t os now p q e = let c = unless-ok (on.broken no_types os p on.Release) _ now e in subst (λ w. row_of t w q ≡ row_of t os q) c.1 (row_of-changed_at t given_up (λ o. refl) os p.object q)

pub settle-types : (t : Tables) (os : Objects) (p q : Path) (b : Birth) → row_of t (settle os p b) q ≡ row_of t os q
settle-types t os p q b = row_of-changed_at t _ (λ o. refl) os p.object q

pub make-types : (t : Tables) (limits : Limits) (os now : Objects) (made : Request) (q : Path) → make t limits os made ≡ Ok now → Knows t os q → row_of t now q ≡ row_of t os q
make-types t limits os now made q e k =
    let o = known-object t os q k in
    let more = slice_get-more os (new_object t made ∷ []) q.object o.0 o.1 in
    subst (λ w. row_of t w q ≡ row_of t os q) (make-ok t limits os now made e) (ap (option_and_then (λ (o : Object). option_and_then (spot_row t q.past (spot q)) (root_row t o))) (more ∙ sym o.1))

pub cut-types : (t : Tables) (os : Objects) (mark : ℕ) (q : Path) → q.object < mark → row_of t (cut os mark) q ≡ row_of t os q
cut-types t os mark q h = ap (option_and_then (λ (o : Object). option_and_then (spot_row t q.past (spot q)) (root_row t o))) (slice_get-take os mark q.object h)

-- moving in an array

at_index-row : (t : Tables) (os : Objects) (p : Path) (i : ℕ) → i ≤ count_at t os p → Seat t os p → row_of t os (at_index p (count_at t os p) i) ≡ row_of t os p
at_index-row t os p i h (InArray us k es sp r er a ea n of en e ee b) =
    let c = count_at-element t os p us k r a n of sp er ea en in
    let l : i ≤ n = subst (λ m. i ≤ m) c h in
    ap (row_of t os) (ap (λ m. at_index p m i) c ∙ ap (λ (x : Spot). place_at p.object (if x.many then x.array ++ step.Elem i ∷ [] else x.array) (i == n)) sp)
    ∙ row_of-element t os p.object us i (i == n) r a n of e er ea en ee (seat-index n i l)
    ∙ sym (ap (λ ss. row_of t os (place_at p.object ss p.past)) es ∙ row_of-element t os p.object us k p.past r a n of e er ea en ee b)
at_index-row t os p i h (Single sp r er a ea) =
    ap (row_of t os) (ap (λ m. at_index p m i) (count_at-single t os p (sp p.past)) ∙ ap (λ (x : Spot). place_at p.object (if x.many then x.array ++ step.Elem i ∷ [] else x.array) (i == 1)) (sp p.past))
    ∙ row_of-single t os p.object p.steps (i == 1) r a er sp ea
    ∙ sym (row_of-single t os p.object p.steps p.past r a er sp ea)

pub add-types : (t : Tables) (os : Objects) (p q : Path) (by : ℤ) → Knows t os p → add t os p by ≡ Ok q → row_of t os q ≡ row_of t os p
add-types t os p q by k e =
    let m = add-ok t os p q by e in
    let i = moved-ok p q (count_at t os p) by m.1 in
    let w = index_within-some (count_at t os p) (pos (spot p).index +ℤ by) i.0 i.1 in
    ap (row_of t os) (sym i.2) ∙ at_index-row t os p i.0 w.1 (seat t os p k)

-- enclosing objects

-- the place of a class
abbrev IsClassAt : Tables → Objects → Path → ClassId → Type 0
IsClassAt t os p c = (r : TypeRow) × (row_of t os p ≡ Some r) × (r.kind ≡ kind.Class c)

class_of-class : (k : TypeKind) (c : ClassId) → on.class_of k ≡ Some c → k ≡ kind.Class c
class_of-class (kind.Class d) c e = ap kind.Class (same d c e)
  where
    same : (d c : ClassId) → Some d ≡ Some c → d ≡ c
    same d c e = cc
class_of-class kind.Void c e = absurd (cc)
class_of-class kind.Nullptr c e = absurd (cc)
class_of-class (kind.Int ty) c e = absurd (cc)
class_of-class (kind.Enum i) c e = absurd (cc)
class_of-class (kind.Pointer to) c e = absurd (cc)
class_of-class (kind.Reference to) c e = absurd (cc)
class_of-class (kind.Array of n) c e = absurd (cc)

class_below-class : (t : Tables) (os : Objects) (p : Path) (o : Object) (ss : List Step) (c : ClassId) → slice_get os p.object ≡ Some o → on.class_below t o ss ≡ Some c → IsClassAt t os (whole_path p ss) c
class_below-class t os p o ss c eo e =
    let w = option_and_then-some (λ (r : TypeRow). option_and_then (λ (q : TypeRow). on.class_of q.kind) (row_below t r ss)) (root_row t o) c e in
    let r = option_and_then-some (λ (q : TypeRow). on.class_of q.kind) (row_below t w.0 ss) c w.2 in
    let first = ap (option_and_then (root_row t)) eo ∙ w.1 in
    (r.0, row_of-plain t os p.object ss ∙ ap (option_and_then (λ (w : TypeRow). row_below t w ss)) first ∙ r.1, class_of-class r.0.kind c r.2)

any_same : (o : Option ClassId) (c : ClassId) → list_any (λ (d : ClassId). d.0 == c.0) (on.listed o) ≡ true → o ≡ Some c
any_same None c e = absurd (cc)
any_same (Some d) c e = ap Some (same_number d c (or_left (d.0 == c.0) e))
  where
    or_left : (b : Bool) → (b || false) ≡ true → b ≡ true
    or_left true e = refl
    or_left false e = absurd (cc)

    same_number : (d c : ClassId) → (d.0 == c.0) ≡ true → d ≡ c
    same_number d c e = ap (λ n. record { 0 = n }) (eqb-true d.0 c.0 e)

-- no down-cast was told
third : (a b c : Bool) → cond a (Some rule.Dangling) (cond b (Some rule.PastEnd) (cond c (Some rule.DownCast) None)) ≡ None → c ≡ false
third true b c e = absurd (cc)
third false true c e = absurd (cc)
third false false true e = absurd (cc)
third false false false e = refl

not_none : {A : Type 0} (o : Option A) → not (is_some o) ≡ false → (a : A) × (o ≡ Some a)
not_none None e = absurd (cc)
not_none (Some a) e = (a, refl)

outer-class : (t : Tables) (os : Objects) (p q : Path) (c : ClassId) → Knows t os p → outer t os p c ≡ Ok q → IsClassAt t os q c
outer-class t os p q c k e =
    let ok = unless-ok (on.broken t os p (on.Outer c)) (whole_path p (unwrap_or (option_and_then (λ (o : Object). on.outer_in t o c p.steps) (slice_get os p.object)) p.steps)) q e in
    let o = known-object t os p k in
    let none = sym (ap (option_and_then (λ (x : Object). find (on.holds t x p (on.Outer c)) (on.order (on.Outer c)))) o.1) ∙ ok.0 in
    let us = not_none (on.outer_in t o.0 c p.steps) (third o.0.released p.past (not (is_some (on.outer_in t o.0 c p.steps))) none) in
    let found = any_same (on.class_below t o.0 us.0) c (find-true (λ us. list_any (λ (d : ClassId). d.0 == c.0) (on.listed (on.class_below t o.0 us))) (reverse (on.enclosing p.steps)) us.0 us.1) in
    let here : whole_path p us.0 ≡ q = ap (λ ss. whole_path p (unwrap_or ss p.steps)) (sym (ap (option_and_then (λ (o : Object). on.outer_in t o c p.steps)) o.1 ∙ us.1)) ∙ ok.1 in
    subst (λ w. IsClassAt t os w c) here (class_below-class t os p o.0 us.0 c o.1 found)

dynamic_class-class : (t : Tables) (os : Objects) (p q : Path) (c : ClassId) → dynamic_class t os p ≡ Ok (Some (c, q)) → IsClassAt t os q c
dynamic_class-class t os p q c e =
    let ok = unless-ok (on.broken t os p on.Dynamic) (option_map (with_place p) (option_and_then (λ (o : Object). on.dynamic_in t o p.steps) (slice_get os p.object))) (Some (c, q)) e in
    let found = option_map-some (with_place p) (option_and_then (λ (o : Object). on.dynamic_in t o p.steps) (slice_get os p.object)) (c, q) ok.1 in
    let o = option_and_then-some (λ (o : Object). on.dynamic_in t o p.steps) (slice_get os p.object) found.0 found.1 in
    let here : IsClassAt t os (with_place p found.0).1 (with_place p found.0).0 = class_below-class t os p o.0 found.0.1 found.0.0 o.1 (dynamic_in-class t o.0 p.steps found.0 o.2) in
    subst (λ (w : ClassId × Path). IsClassAt t os w.1 w.0) found.2 here

-- the outermost object that encloses a class is a class

record Outermost (t : Tables) (w : TypeRow) (ss : List Step) : Type 0 where
  steps : List Step
  others : List (List Step)
  is_first : on.enclosing ss ≡ steps ∷ others
  row : TypeRow
  is_row : row_below t w steps ≡ Some row
  class : ClassId
  is_class : row.kind ≡ kind.Class class

base_kind : (t : Tables) (konst : Bool) (k : TypeKind) (s : Step) (x : TypeRow) → on.is_base s ≡ true → kind_part t konst k s ≡ Some x → (c : ClassId) × (k ≡ kind.Class c)
base_kind t konst (kind.Class c) (step.Base i) x b e = (c, refl)
base_kind t konst kind.Void (step.Base i) x b e = absurd (cc)
base_kind t konst kind.Nullptr (step.Base i) x b e = absurd (cc)
base_kind t konst (kind.Int ty) (step.Base i) x b e = absurd (cc)
base_kind t konst (kind.Enum n) (step.Base i) x b e = absurd (cc)
base_kind t konst (kind.Pointer to) (step.Base i) x b e = absurd (cc)
base_kind t konst (kind.Reference to) (step.Base i) x b e = absurd (cc)
base_kind t konst (kind.Array of n) (step.Base i) x b e = absurd (cc)
base_kind t konst k (step.Field i) x b e = absurd (cc)
base_kind t konst k (step.Elem i) x b e = absurd (cc)

outermost : (t : Tables) (w : TypeRow) (ss : List Step) (x : TypeRow) (c : ClassId) → row_below t w ss ≡ Some x → x.kind ≡ kind.Class c → Outermost t w ss
outermost t w [] x c e h = record { steps = []; others = []; is_first = refl; row = w; is_row = refl; class = c; is_class = ap (λ (r : TypeRow). r.kind) (some_inj w x e) ∙ h }
outermost t w (s ∷ ss) x c e h =
    let q = option_and_then-some (λ (q : TypeRow). row_below t q ss) (row_part t w s) x e in
    by_bases q.0 q.1 (outermost t q.0 ss x c q.2 h) (cases_Bool (on.all_bases (s ∷ ss)))
  where
    first : (b : Bool) → on.all_bases (s ∷ ss) ≡ b → on.enclosing (s ∷ ss) ≡ (if b then [] ∷ [] else []) ++ map (λ us. s ∷ us) (on.enclosing ss)
    first b d = ap (λ b. (if b then [] ∷ [] else []) ++ map (λ us. s ∷ us) (on.enclosing ss)) d

    by_bases : (q : TypeRow) → row_part t w s ≡ Some q → Outermost t q ss → (on.all_bases (s ∷ ss) ≡ true) ⊎ (on.all_bases (s ∷ ss) ≡ false) → Outermost t w (s ∷ ss)
    by_bases q eq o (inl d) =
        let k = base_kind t w.konst w.kind s q (and-left (on.is_base s) (on.all_bases ss) d) eq in
        record { steps = []; others = map (λ us. s ∷ us) (on.enclosing ss); is_first = first true d; row = w; is_row = refl; class = k.0; is_class = k.1 }
    by_bases q eq o (inr d) =
        record { steps = s ∷ o.steps; others = map (λ us. s ∷ us) o.others; is_first = first false d ∙ ap (map (λ us. s ∷ us)) o.is_first; row = o.row; is_row = ap (option_and_then (λ (q : TypeRow). row_below t q o.steps)) eq ∙ o.is_row; class = o.class; is_class = o.is_class }

opaque-found : (t : Tables) (o : Object) (ss : List Step) (w x : TypeRow) (c : ClassId) → on.is_opaque o.birth ≡ true → root_row t o ≡ Some w → row_below t w ss ≡ Some x → x.kind ≡ kind.Class c → is_some (on.dynamic_in t o ss) ≡ true
opaque-found t o ss w x c b ew ex h =
    let m = outermost t w ss x c ex h in
    let f : find (on.decides o) (on.enclosing ss) ≡ Some m.steps = ap (find (on.decides o)) m.is_first ∙ ap (λ d. cond (d || on.passes on.is_deciding (below o.tree m.steps)) (Some m.steps) (find (on.decides o) m.others)) b in
    let d : on.class_below t o m.steps ≡ Some m.class =
    ap (option_and_then (λ (r : TypeRow). option_and_then (λ (q : TypeRow). on.class_of q.kind) (row_below t r m.steps))) ew ∙ ap (option_and_then (λ (q : TypeRow). on.class_of q.kind)) m.is_row ∙ ap on.class_of m.is_class in
    ap (λ (y : Option (List Step)). is_some {T = ClassId × List Step} (option_and_then (λ us. option_map (λ c. (c, us)) (on.class_below t o us)) y)) f ∙ ap (λ (y : Option ClassId). is_some {T = ClassId × List Step} (option_map (λ c. (c, m.steps)) y)) d

-- no rule was told
fourth : (a b c d : Bool) → cond a (Some rule.Dangling) (cond b (Some rule.PastEnd) (cond c (Some rule.InactiveMember) (cond d (Some rule.OutOfLifetime) None))) ≡ None → d ≡ false
fourth true b c d e = absurd (cc)
fourth false true c d e = absurd (cc)
fourth false false true d e = absurd (cc)
fourth false false false true e = absurd (cc)
fourth false false false false e = refl

found_unless : (opaque any dead found : Bool) → opaque ≡ false → (not opaque && (any || (dead || not found))) ≡ false → found ≡ true
found_unless opaque any dead true h e = refl
found_unless true any dead false h e = absurd (cc)
found_unless false true dead false h e = absurd (cc)
found_unless false false true false h e = absurd (cc)
found_unless false false false false h e = absurd (cc)

dynamic_class-found : (t : Tables) (os : Objects) (p : Path) (c : ClassId) (found : Option (ClassId × Path)) → IsClassAt t os p c → dynamic_class t os p ≡ Ok found → is_some found ≡ true
dynamic_class-found t os p c found r e =
    let ok = unless-ok (on.broken t os p on.Dynamic) (option_map (with_place p) (option_and_then (λ (o : Object). on.dynamic_in t o p.steps) (slice_get os p.object))) found e in
    let known = known-row t os p r.0 r.1 in
    let o = known-object t os p known in
    let np = unbroken-not_past t os p on.Dynamic (Second (rule.InactiveMember ∷ rule.OutOfLifetime ∷ []) refl) known ok.0 in
    let rows = plain-rows t os p r.0 np r.1 in
    let root : root_row t o.0 ≡ Some rows.0 = sym (ap (option_and_then (root_row t)) o.1) ∙ rows.1 in
    let none = sym (ap (option_and_then (λ (x : Object). find (on.holds t x p on.Dynamic) (on.order on.Dynamic))) o.1) ∙ ok.0 in
    let unbroken : on.holds t o.0 p on.Dynamic rule.OutOfLifetime ≡ false =
    fourth o.0.released p.past (on.holds t o.0 p on.Dynamic rule.InactiveMember) (on.holds t o.0 p on.Dynamic rule.OutOfLifetime) none in
    let some : is_some (on.dynamic_in t o.0 p.steps) ≡ true = by_birth o.0 rows.0 root rows.2 unbroken (cases_Bool (on.is_opaque o.0.birth)) in
    ap (λ (y : Option (ClassId × Path)). is_some y) (sym (ap (λ x. option_map (with_place p) (option_and_then (λ (o : Object). on.dynamic_in t o p.steps) x)) (sym o.1) ∙ ok.1)) ∙ mapped (on.dynamic_in t o.0 p.steps) some
  where
    by_birth : (o : Object) (w : TypeRow) → root_row t o ≡ Some w → row_below t w p.steps ≡ Some r.0 → on.holds t o p on.Dynamic rule.OutOfLifetime ≡ false → (on.is_opaque o.birth ≡ true) ⊎ (on.is_opaque o.birth ≡ false) → is_some (on.dynamic_in t o p.steps) ≡ true
    by_birth o w ew ex u (inl b) = opaque-found t o p.steps w r.0 c b ew ex r.2
    by_birth o w ew ex u (inr b) = found_unless (on.is_opaque o.birth) (list_any (λ w. on.is_dead w.0) (on.on_way o.tree p.steps)) (on.passes on.is_dead (below o.tree p.steps)) (is_some (on.dynamic_in t o p.steps)) b u

    mapped : (m : Option (ClassId × List Step)) → is_some m ≡ true → is_some (option_map (with_place p) m) ≡ true
    mapped None e = e
    mapped (Some m) e = refl

-- the same in the words of the definitions

class_at-is : (t : Tables) (os : Objects) (p : Path) (c : ClassId) → IsClassAt t os p c → on.class_at t os p ≡ Some c
class_at-is t os p c r = ap (option_and_then (λ (r : TypeRow). on.class_of r.kind)) r.1 ∙ ap on.class_of r.2

is-class_at : (t : Tables) (os : Objects) (p : Path) (c : ClassId) → on.class_at t os p ≡ Some c → IsClassAt t os p c
is-class_at t os p c e = let r = option_and_then-some (λ (r : TypeRow). on.class_of r.kind) (row_of t os p) c e in (r.0, r.1, class_of-class r.0.kind c r.2)

pub outer-class_at : (t : Tables) (os : Objects) (p q : Path) (c : ClassId) → Knows t os p → outer t os p c ≡ Ok q → on.class_at t os q ≡ Some c
outer-class_at t os p q c k e = class_at-is t os q c (outer-class t os p q c k e)

pub dynamic_class-class_at : (t : Tables) (os : Objects) (p q : Path) (c : ClassId) → dynamic_class t os p ≡ Ok (Some (c, q)) → on.class_at t os q ≡ Some c
dynamic_class-class_at t os p q c e = class_at-is t os q c (dynamic_class-class t os p q c e)

pub dynamic_class-some : (t : Tables) (os : Objects) (p : Path) (c : ClassId) (found : Option (ClassId × Path)) → on.class_at t os p ≡ Some c → dynamic_class t os p ≡ Ok found → is_some found ≡ true
dynamic_class-some t os p c found h e = dynamic_class-found t os p c found (is-class_at t os p c h) e
