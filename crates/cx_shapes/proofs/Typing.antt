-- A type's steps are those of its form, and a form stays that of a type where the types grow.
use Rattle.std.proofs.Common.{◌≡◌, ℕ, zero, suc, ◌*◌, nat_lt, Bool, true, false, List, [], ◌∷◌, map, Option, None, Some, refl, sym, ap, subst, ◌∙◌, slice_get, if◌then◌else◌}
use Rattle.std.specs.Prelude.{option_map, option_and_then}
use Rattle.cx_type_defs.proofs.Lists.{some_inj, option_map-some, option_and_then-some, Along-at}
use Rattle.cx_type_defs.specs.declared.ids.Step.{Step}
use Rattle.cx_type_defs.specs.declared.ids.Step.TheVariants as step
use Rattle.cx_type_defs.specs.declared.ids.ClassId.{ClassId}
use Rattle.cx_type_defs.specs.declared.kind.TypeRow.{TypeRow}
use Rattle.cx_type_defs.specs.declared.kind.TypeKind.{TypeKind}
use Rattle.cx_type_defs.specs.declared.kind.TypeKind.TheVariants as kind
use Rattle.cx_type_defs.specs.declared.decl.Field.{Field}
use Rattle.cx_type_defs.specs.declared.decl.ClassBody.{ClassBody}
use Rattle.cx_type_defs.specs.declared.decl.ClassDecl.{ClassDecl}
use Rattle.cx_type_defs.specs.declared.decl.ClassKey.{ClassKey}
use Rattle.cx_type_defs.specs.Tables.{Tables, Grows, ClassGrows, Stays, body_at}
use Rattle.cx_state.specs.Pointers.{is_union_key}
use Rattle.cx_state.specs.Places.{kind_part, row_part, row_below, element, base_row}
use Rattle.cx_shapes.specs.Forms.{Form, Forms, Leaf, Row, Class, Union, End, More, size, sizes, Part, further, item, part_of, below_of}
use Rattle.cx_shapes.specs.Kinds.{OfKind, OfRow, OfBody, OfClass, base_kinds, field_kind, field_kinds, IsForm, AreForms}
use Rattle.cx_shapes.proofs.Numbering.{if_some}

-- items

pub item_of_kind : (t : Tables) (fs : Forms) (ks : List (Option TypeKind)) → AreForms t fs ks → (i : ℕ) (k : TypeKind) → slice_get ks i ≡ Some (Some k) → (p : Part) × (item fs i ≡ Some p) × IsForm t p.1 k
item_of_kind t End [] h i k e = absurd (cc)
item_of_kind t End (x ∷ ks) h i k e = absurd h
item_of_kind t (More f fs) [] h i k e = absurd h
item_of_kind t (More f fs) (x ∷ ks) h zero k e = ((0, f), refl, subst (OfKind (IsForm t f)) (some_inj x (Some k) e) h.0)
item_of_kind t (More f fs) (x ∷ ks) h (suc i) k e = let m = item_of_kind t fs ks h.1 i k e in (further (size f) m.0, ap (option_map (further (size f))) m.1, m.2)

kind_known : (t : Tables) (f : Form) (x : Option TypeKind) → OfKind (IsForm t f) x → (k : TypeKind) × (x ≡ Some k) × IsForm t f k
kind_known t f None h = absurd h
kind_known t f (Some k) h = (k, refl, h)

pub kind_of_item : (t : Tables) (fs : Forms) (ks : List (Option TypeKind)) → AreForms t fs ks → (i : ℕ) (p : Part) → item fs i ≡ Some p → (k : TypeKind) × (slice_get ks i ≡ Some (Some k)) × IsForm t p.1 k
kind_of_item t End ks h i p e = absurd (cc)
kind_of_item t (More f fs) [] h i p e = absurd h
kind_of_item t (More f fs) (x ∷ ks) h zero p e =
    let m = kind_known t f x h.0 in
    (m.0, ap Some m.1, subst (λ (q : Part). IsForm t q.1 m.0) (some_inj (0, f) p e) m.2)
kind_of_item t (More f fs) (x ∷ ks) h (suc i) p e =
    let m = option_map-some (further (size f)) (item fs i) p e in
    let k = kind_of_item t fs ks h.1 i m.0 m.1 in
    (k.0, k.1, subst (λ (q : Part). IsForm t q.1 k.0) m.2 k.2)

get_map : {A B : Type 0} (f : A → B) (xs : List A) (i : ℕ) → slice_get (map f xs) i ≡ option_map f (slice_get xs i)
get_map f [] i = refl
get_map f (x ∷ xs) zero = refl
get_map f (x ∷ xs) (suc i) = get_map f xs i

-- a class's body

body_there : (P : ClassBody → Type 0) (o : Option ClassBody) → OfBody P o → (b : ClassBody) × (o ≡ Some b) × P b
body_there P None h = absurd h
body_there P (Some b) h = (b, refl, h)

pub body_known : (P : ClassKey → ClassBody → Type 0) (o : Option ClassDecl) → OfClass P o → (d : ClassDecl) × (b : ClassBody) × (o ≡ Some d) × (d.body ≡ Some b) × P d.key b
body_known P None h = absurd h
body_known P (Some d) h = let m = body_there (P d.key) d.body h in (d, m.0, refl, m.1, m.2)

-- parts

pub row_known : (P : TypeKind → Type 0) (o : Option TypeRow) → OfRow P o → (r : TypeRow) × (o ≡ Some r) × P r.kind
row_known P None h = absurd h
row_known P (Some r) h = (r, refl, h)

field_row : (o : Option TypeRow) (k : TypeKind) → option_map (λ (r : TypeRow). r.kind) o ≡ Some k → (q : TypeRow) × (o ≡ Some q) × (q.kind ≡ k)
field_row o k e = option_map-some (λ (r : TypeRow). r.kind) o k e

-- a body's base and member, by the class's number
base_is : (t : Tables) (c : ClassId) (d : ClassDecl) (b : ClassBody) (i : ℕ) → slice_get t.classes c.0 ≡ Some d → d.body ≡ Some b → option_and_then (λ (b : ClassBody). slice_get b.bases i) (body_at t c) ≡ slice_get b.bases i
base_is t c d b i e h = ap (λ (o : Option ClassDecl). option_and_then (λ (b : ClassBody). slice_get b.bases i) (option_and_then (λ (d : ClassDecl). d.body) o)) e ∙ ap (option_and_then (λ (b : ClassBody). slice_get b.bases i)) h

field_is : (t : Tables) (c : ClassId) (d : ClassDecl) (b : ClassBody) (i : ℕ) → slice_get t.classes c.0 ≡ Some d → d.body ≡ Some b → option_and_then (λ (b : ClassBody). slice_get b.fields i) (body_at t c) ≡ slice_get b.fields i
field_is t c d b i e h = ap (λ (o : Option ClassDecl). option_and_then (λ (b : ClassBody). slice_get b.fields i) (option_and_then (λ (d : ClassDecl). d.body) o)) e ∙ ap (option_and_then (λ (b : ClassBody). slice_get b.fields i)) h

-- a class's lists of forms
module _ (t : Tables) (konst : Bool) (c : ClassId) (d : ClassDecl) (b : ClassBody) (is : slice_get t.classes c.0 ≡ Some d) (full : d.body ≡ Some b) where
  base_part : (bs : Forms) → AreForms t bs (base_kinds b) → (i : ℕ) (q : TypeRow) → kind_part t konst (kind.Class c) (step.Base i) ≡ Some q → (p : Part) × (item bs i ≡ Some p) × IsForm t p.1 q.kind
  base_part bs h i q e =
      let m = option_map-some base_row (option_and_then (λ (b : ClassBody). slice_get b.bases i) (body_at t c)) q e in
      let g : slice_get b.bases i ≡ Some m.0 = sym (base_is t c d b i is full) ∙ m.1 in
      let x = item_of_kind t bs (base_kinds b) h i (kind.Class m.0) (get_map (λ (c : ClassId). Some (kind.Class c)) b.bases i ∙ ap (option_map (λ (c : ClassId). Some (kind.Class c))) g) in
      (x.0, x.1, subst (λ (r : TypeRow). IsForm t x.0.1 r.kind) m.2 x.2)

  field_part : (ms : Forms) → AreForms t ms (field_kinds t b) → (i : ℕ) (q : TypeRow) → kind_part t konst (kind.Class c) (step.Field i) ≡ Some q → (p : Part) × (item ms i ≡ Some p) × IsForm t p.1 q.kind
  field_part ms h i q e =
      let m = option_and_then-some (λ (f : Field). slice_get t.rows f.ty.0) (option_and_then (λ (b : ClassBody). slice_get b.fields i) (body_at t c)) q e in
      let g : slice_get b.fields i ≡ Some m.0 = sym (field_is t c d b i is full) ∙ m.1 in
      item_of_kind t ms (field_kinds t b) h i q.kind (get_map (field_kind t) b.fields i ∙ ap (option_map (field_kind t)) g ∙ ap (λ o. Some (option_map (λ (r : TypeRow). r.kind) o)) m.2)

  part_base : (bs : Forms) → AreForms t bs (base_kinds b) → (i : ℕ) (p : Part) → item bs i ≡ Some p → (q : TypeRow) × (kind_part t konst (kind.Class c) (step.Base i) ≡ Some q) × IsForm t p.1 q.kind
  part_base bs h i p e =
      let x = kind_of_item t bs (base_kinds b) h i p e in
      let m = option_map-some (λ (c : ClassId). Some (kind.Class c)) (slice_get b.bases i) (Some x.0) (sym (get_map (λ (c : ClassId). Some (kind.Class c)) b.bases i) ∙ x.1) in
      let k : kind.Class m.0 ≡ x.0 = some_inj (kind.Class m.0) x.0 m.2 in
      (base_row m.0, ap (option_map base_row) (base_is t c d b i is full ∙ m.1), subst (IsForm t p.1) (sym k) x.2)

  part_field : (ms : Forms) → AreForms t ms (field_kinds t b) → (i : ℕ) (p : Part) → item ms i ≡ Some p → (q : TypeRow) × (kind_part t konst (kind.Class c) (step.Field i) ≡ Some q) × IsForm t p.1 q.kind
  part_field ms h i p e =
      let x = kind_of_item t ms (field_kinds t b) h i p e in
      let m = option_map-some (field_kind t) (slice_get b.fields i) (Some x.0) (sym (get_map (field_kind t) b.fields i) ∙ x.1) in
      let r = field_row (slice_get t.rows m.0.ty.0) x.0 m.2 in
      (r.0, ap (option_and_then (λ (f : Field). slice_get t.rows f.ty.0)) (field_is t c d b i is full ∙ m.1) ∙ r.1, subst (IsForm t p.1) (sym r.2) x.2)

-- an element is of the elements' type
elem_kind : (konst : Bool) (o : Option TypeRow) (r q : TypeRow) → o ≡ Some r → option_map (element konst) o ≡ Some q → r.kind ≡ q.kind
elem_kind konst o r q e h = ap (λ (x : TypeRow). x.kind) (some_inj (element konst r) q (sym (ap (option_map (element konst)) e) ∙ h))

if_some_of : {A : Type 0} (b : Bool) (o : Option A) (x : A) → (if b then o else None) ≡ Some x → (b ≡ true) × (o ≡ Some x)
if_some_of true o x e = (refl, e)
if_some_of false o x e = absurd (cc)

no_item : {A : Type 0} (xs : List A) (i : ℕ) (x : A) → xs ≡ [] → slice_get xs i ≡ Some x → ⊥
no_item [] i x e h = cc
no_item (y ∷ ys) i x e h = cc

pub has_part : (t : Tables) (f : Form) (konst : Bool) (k : TypeKind) → IsForm t f k → (s : Step) (q : TypeRow) → kind_part t konst k s ≡ Some q → (p : Part) × (part_of f s ≡ Some p) × IsForm t p.1 q.kind
has_part t (Row n f) konst (kind.Array of m) h (step.Elem i) q e =
    let g = if_some_of (nat_lt i m) (option_map (element konst) (slice_get t.rows of.0)) q e in
    let r = row_known (IsForm t f) (slice_get t.rows of.0) h.1 in
    let k : r.0.kind ≡ q.kind = elem_kind konst (slice_get t.rows of.0) r.0 q r.1 g.1 in
    ((suc (i * size f), f), ap (λ b. if b then Some (suc (i * size f), f) else None) (ap (nat_lt i) (sym h.0) ∙ g.0), subst (IsForm t f) k r.2)
has_part t (Class bs ms) konst (kind.Class c) h (step.Base i) q e =
    let w = body_known (λ k b. (is_union_key k ≡ false) × AreForms t bs (base_kinds b) × AreForms t ms (field_kinds t b)) (slice_get t.classes c.0) h in
    let x = base_part t konst c w.0 w.1 w.2 w.3 bs w.4.1 i q e in
    (further 1 x.0, ap (option_map (further 1)) x.1, x.2)
has_part t (Class bs ms) konst (kind.Class c) h (step.Field i) q e =
    let w = body_known (λ k b. (is_union_key k ≡ false) × AreForms t bs (base_kinds b) × AreForms t ms (field_kinds t b)) (slice_get t.classes c.0) h in
    let x = field_part t konst c w.0 w.1 w.2 w.3 ms w.4.2 i q e in
    (further (suc (sizes bs)) x.0, ap (option_map (further (suc (sizes bs)))) x.1, x.2)
has_part t (Union ms) konst (kind.Class c) h (step.Field i) q e =
    let w = body_known (λ k b. (is_union_key k ≡ true) × (b.bases ≡ []) × AreForms t ms (field_kinds t b)) (slice_get t.classes c.0) h in
    let x = field_part t konst c w.0 w.1 w.2 w.3 ms w.4.2 i q e in
    (further 1 x.0, ap (option_map (further 1)) x.1, x.2)
has_part t (Union ms) konst (kind.Class c) h (step.Base i) q e =
    let w = body_known (λ k b. (is_union_key k ≡ true) × (b.bases ≡ []) × AreForms t ms (field_kinds t b)) (slice_get t.classes c.0) h in
    let m = option_map-some base_row (option_and_then (λ (b : ClassBody). slice_get b.bases i) (body_at t c)) q e in
    let g : slice_get w.1.bases i ≡ Some m.0 = sym (base_is t c w.0 w.1 i w.2 w.3) ∙ m.1 in
    absurd (no_item w.1.bases i m.0 w.4.1 g)
has_part t Leaf konst (kind.Array of m) h s q e = absurd h
has_part t Leaf konst (kind.Class c) h s q e = absurd h
has_part t f konst k h s q e = absurd (first_of (assumption, cc))

pub part_has : (t : Tables) (f : Form) (konst : Bool) (k : TypeKind) → IsForm t f k → (s : Step) (p : Part) → part_of f s ≡ Some p → (q : TypeRow) × (kind_part t konst k s ≡ Some q) × IsForm t p.1 q.kind
part_has t (Row n f) konst (kind.Array of m) h (step.Elem i) p e =
    let g = if_some (nat_lt i n) (suc (i * size f), f) p e in
    let r = row_known (IsForm t f) (slice_get t.rows of.0) h.1 in
    (element konst r.0, ap (λ b. if b then option_map (element konst) (slice_get t.rows of.0) else None) (ap (nat_lt i) h.0 ∙ g.0) ∙ ap (option_map (element konst)) r.1, subst (λ (q : Part). IsForm t q.1 r.0.kind) g.1 r.2)
part_has t (Class bs ms) konst (kind.Class c) h (step.Base i) p e =
    let w = body_known (λ k b. (is_union_key k ≡ false) × AreForms t bs (base_kinds b) × AreForms t ms (field_kinds t b)) (slice_get t.classes c.0) h in
    let m = option_map-some (further 1) (item bs i) p e in
    let x = part_base t konst c w.0 w.1 w.2 w.3 bs w.4.1 i m.0 m.1 in
    (x.0, x.1, subst (λ (q : Part). IsForm t q.1 x.0.kind) m.2 x.2)
part_has t (Class bs ms) konst (kind.Class c) h (step.Field i) p e =
    let w = body_known (λ k b. (is_union_key k ≡ false) × AreForms t bs (base_kinds b) × AreForms t ms (field_kinds t b)) (slice_get t.classes c.0) h in
    let m = option_map-some (further (suc (sizes bs))) (item ms i) p e in
    let x = part_field t konst c w.0 w.1 w.2 w.3 ms w.4.2 i m.0 m.1 in
    (x.0, x.1, subst (λ (q : Part). IsForm t q.1 x.0.kind) m.2 x.2)
part_has t (Union ms) konst (kind.Class c) h (step.Field i) p e =
    let w = body_known (λ k b. (is_union_key k ≡ true) × (b.bases ≡ []) × AreForms t ms (field_kinds t b)) (slice_get t.classes c.0) h in
    let m = option_map-some (further 1) (item ms i) p e in
    let x = part_field t konst c w.0 w.1 w.2 w.3 ms w.4.2 i m.0 m.1 in
    (x.0, x.1, subst (λ (q : Part). IsForm t q.1 x.0.kind) m.2 x.2)
part_has t f konst k h s p e = absurd (first_of (assumption, cc))

-- along steps

pub has_below : (t : Tables) (f : Form) (r : TypeRow) → IsForm t f r.kind → (ss : List Step) (q : TypeRow) → row_below t r ss ≡ Some q → (p : Part) × (below_of f ss ≡ Some p) × IsForm t p.1 q.kind
has_below t f r h [] q e = ((0, f), refl, subst (λ (x : TypeRow). IsForm t f x.kind) (some_inj r q e) h)
has_below t f r h (s ∷ ss) q e =
    let m = option_and_then-some (λ (q : TypeRow). row_below t q ss) (row_part t r s) q e in
    let x = has_part t f r.konst r.kind h s m.0 m.1 in
    let y = has_below t x.0.1 m.0 x.2 ss q m.2 in
    (further x.0.0 y.0, ap (option_and_then (λ (p : Part). option_map (further p.0) (below_of p.1 ss))) x.1 ∙ ap (option_map (further x.0.0)) y.1, y.2)

pub below_has : (t : Tables) (f : Form) (r : TypeRow) → IsForm t f r.kind → (ss : List Step) (p : Part) → below_of f ss ≡ Some p → (q : TypeRow) × (row_below t r ss ≡ Some q) × IsForm t p.1 q.kind
below_has t f r h [] p e = (r, refl, subst (λ (x : Part). IsForm t x.1 r.kind) (some_inj (0, f) p e) h)
below_has t f r h (s ∷ ss) p e =
    let m = option_and_then-some (λ (p : Part). option_map (further p.0) (below_of p.1 ss)) (part_of f s) p e in
    let g = option_map-some (further m.0.0) (below_of m.0.1 ss) p m.2 in
    let x = part_has t f r.konst r.kind h s m.0 m.1 in
    let y = below_has t m.0.1 x.0 x.2 ss g.0 g.1 in
    (y.0, ap (option_and_then (λ (q : TypeRow). row_below t q ss)) x.1 ∙ y.1, subst (λ (z : Part). IsForm t z.1 y.0.kind) g.2 y.2)

-- where the types grow

class_of_body : (P : ClassKey → ClassBody → Type 0) (o : Option ClassDecl) (d : ClassDecl) (b : ClassBody) → o ≡ Some d → d.body ≡ Some b → P d.key b → OfClass P o
class_of_body P o d b e h x = subst (OfClass P) (sym e) (subst (OfBody (P d.key)) (sym h) x)

body_stays : (o : Option ClassBody) (now : Option ClassBody) (b : ClassBody) → Stays o now → o ≡ Some b → now ≡ Some b
body_stays None now b s e = absurd (cc)
body_stays (Some a) now b s e = s ∙ e

module _ (t u : Tables) (grows : Grows t u) where
  row_stays : (id : ℕ) (r : TypeRow) → slice_get t.rows id ≡ Some r → slice_get u.rows id ≡ Some r
  row_stays id r e = let m = Along-at (λ a b. b ≡ a) t.rows u.rows grows.row_list id r e in m.1 ∙ ap Some m.2

  class_stays : (c : ClassId) (P : ClassKey → ClassBody → Type 0) (d : ClassDecl) (b : ClassBody) → slice_get t.classes c.0 ≡ Some d → d.body ≡ Some b → P d.key b → OfClass P (slice_get u.classes c.0)
  class_stays c P d b e h x =
      let m = Along-at ClassGrows t.classes u.classes grows.class_list c.0 d e in
      class_of_body P (slice_get u.classes c.0) m.0 b m.1 (body_stays d.body m.0.body b m.2.body_stays h) (subst (λ k. P k b) (sym m.2.same_key) x)

  mutual
    pub form_stays : (f : Form) (k : TypeKind) → IsForm t f k → IsForm u f k
    form_stays Leaf k h = h
    form_stays (Row n f) (kind.Array of m) h =
        let r = row_known (IsForm t f) (slice_get t.rows of.0) h.1 in
        (h.0, subst (OfRow (IsForm u f)) (sym (row_stays of.0 r.0 r.1)) (form_stays f r.0.kind r.2))
    form_stays (Class bs ms) (kind.Class c) h =
        let w = body_known (λ k b. (is_union_key k ≡ false) × AreForms t bs (base_kinds b) × AreForms t ms (field_kinds t b)) (slice_get t.classes c.0) h in
        class_stays c (λ k b. (is_union_key k ≡ false) × AreForms u bs (base_kinds b) × AreForms u ms (field_kinds u b)) w.0 w.1 w.2 w.3
        (w.4.0, bases_stay bs w.1.bases w.4.1, fields_stay ms w.1.fields w.4.2)
    form_stays (Union ms) (kind.Class c) h =
        let w = body_known (λ k b. (is_union_key k ≡ true) × (b.bases ≡ []) × AreForms t ms (field_kinds t b)) (slice_get t.classes c.0) h in
        class_stays c (λ k b. (is_union_key k ≡ true) × (b.bases ≡ []) × AreForms u ms (field_kinds u b)) w.0 w.1 w.2 w.3
        (w.4.0, w.4.1, fields_stay ms w.1.fields w.4.2)
    form_stays f k h = absurd (first_of (assumption, cc))

    bases_stay : (fs : Forms) (cs : List ClassId) → AreForms t fs (map (λ (c : ClassId). Some (kind.Class c)) cs) → AreForms u fs (map (λ (c : ClassId). Some (kind.Class c)) cs)
    bases_stay End [] h = tt
    bases_stay (More f fs) (c ∷ cs) h = (form_stays f (kind.Class c) h.0, bases_stay fs cs h.1)
    bases_stay fs cs h = absurd (first_of (assumption, cc))

    fields_stay : (fs : Forms) (xs : List Field) → AreForms t fs (map (field_kind t) xs) → AreForms u fs (map (field_kind u) xs)
    fields_stay End [] h = tt
    fields_stay (More f fs) (x ∷ xs) h =
        let k = kind_known t f (field_kind t x) h.0 in
        let r = field_row (slice_get t.rows x.ty.0) k.0 k.1 in
        let e : field_kind u x ≡ Some k.0 = ap (option_map (λ (r : TypeRow). r.kind)) (row_stays x.ty.0 r.0 r.1) ∙ ap Some r.2 in
        (subst (OfKind (IsForm u f)) (sym e) (form_stays f k.0 k.2), fields_stay fs xs h.1)
    fields_stay fs xs h = absurd (first_of (assumption, cc))
