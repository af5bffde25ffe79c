-- The parts of a complete type are complete.
use Rattle.std.proofs.Common.{◌≡◌, ℕ, zero, suc, ◌<◌, ◌≤◌, Bool, true, false, List, [], ◌∷◌, length, Option, None, Some, sym, ap, subst, ◌∙◌, slice_get, arith, if◌then◌else◌}
use Rattle.std.specs.Prelude.{option_map, option_and_then, is_some, nat_lt, ◌==◌, ◌||◌}
use Rattle.cx_type_defs.specs.declared.ids.Step.{Step}
use Rattle.cx_type_defs.specs.declared.ids.Step.TheVariants as step
use Rattle.cx_type_defs.specs.declared.ids.TypeId.{TypeId}
use Rattle.cx_type_defs.specs.declared.ids.ClassId.{ClassId}
use Rattle.cx_type_defs.specs.declared.kind.TypeRow.{TypeRow}
use Rattle.cx_type_defs.specs.declared.kind.TypeKind.{TypeKind}
use Rattle.cx_type_defs.specs.declared.kind.TypeKind.TheVariants as kind
use Rattle.cx_type_defs.specs.declared.decl.Field.{Field}
use Rattle.cx_type_defs.specs.declared.decl.ClassBody.{ClassBody}
use Rattle.cx_type_defs.specs.declared.decl.ClassDecl.{ClassDecl}
use Rattle.cx_type_defs.specs.Tables.{Tables, body_at, field_of}
use Rattle.cx_type_defs.specs.Questions.{Question, Part, OfType, OfClass, each, body_answer, class_answer, kind_answer, looked, most_levels, asked, extent_of, is_complete}
use Rattle.cx_type_defs.proofs.Lists.{some_inj, option_and_then-some, option_map-some, both-some, joined-some}
use Rattle.cx_type_defs.proofs.Looking.{Grows-same, looked-keeps}
use Rattle.cx_state.specs.declared.kind.Phase.TheVariants as phase
use Rattle.cx_state.specs.Objects.{Path, Object, Objects}
use Rattle.cx_state.specs.Places.{element, row_part, row_below, whole_kind, root_row, Spot, spot, spot_row, index_row, row_of}
use Rattle.cx_state.specs.Forms.{ObjectFits, Fit}
use Rattle.cx_state.proofs.NewTrees.{where-true, element-row, base-row, field-row, body-known, asked-fits}
use Rattle.cx_state.proofs.Complete.{is_some-true, complete-new}

each-item : {A R : Type 0} (f : A → Option R) (xs : List A) (rs : List R) → each f xs ≡ Some rs → (i : ℕ) (x : A) → slice_get xs i ≡ Some x → (r : R) × (f x ≡ Some r)
each-item f [] rs e i x a = absurd (cc)
each-item f (y ∷ xs) rs e zero x a = let w = both-some (f y) (each f xs) rs e in (w.0, ap f (sym (some_inj y x a)) ∙ w.2)
each-item f (y ∷ xs) rs e (suc i) x a = let w = both-some (f y) (each f xs) rs e in each-item f xs w.1 w.3 i x a

module _ {R : Type 0} (q : Question R) (t : Tables) where
  -- a type of this kind is answered by looking no deeper than one may
  pub record Answered (k : TypeKind) : Type 0 where
    pub level : ℕ
    pub is_level : level ≤ most_levels
    pub answer : R
    pub is_answer : kind_answer q t (looked q t level) k ≡ Some answer

  type-answered : (n : ℕ) → n ≤ most_levels → (id : TypeId) (x : R) → looked q t n (OfType id) ≡ Some x → (r : TypeRow) → slice_get t.rows id.0 ≡ Some r → Answered r.kind
  unfolding looked
  type-answered zero l id x e r at = absurd (cc)
  type-answered (suc n) l id x e r at = record { level = n; is_level = omega arith; answer = x; is_answer = sym (ap (option_and_then (λ (w : TypeRow). kind_answer q t (looked q t n) w.kind)) at) ∙ e }

  class-answered : (n : ℕ) → n ≤ most_levels → (c : ClassId) (x : R) → looked q t n (OfClass c) ≡ Some x → Answered (kind.Class c)
  unfolding looked
  class-answered zero l c x e = absurd (cc)
  class-answered (suc n) l c x e = record { level = n; is_level = omega arith; answer = x; is_answer = e }

  -- what a class's answer rests on
  record BodyOf (f : Part → Option R) (c : ClassId) : Type 0 where
    body : ClassBody
    is_body : body_at t c ≡ Some body
    bases : List R
    is_bases : each (λ c. f (OfClass c)) body.bases ≡ Some bases
    members : List R
    is_members : each (λ (v : Field). f (OfType v.ty)) body.fields ≡ Some members

  body-of : (f : Part → Option R) (c : ClassId) (x : R) → class_answer q f (slice_get t.classes c.0) ≡ Some x → BodyOf f c
  body-of f c x e =
      let d = option_and_then-some (λ (d : ClassDecl). option_and_then (body_answer q f d.key) d.body) (slice_get t.classes c.0) x e in
      let b = option_and_then-some (body_answer q f d.0.key) d.0.body x d.2 in
      let j = joined-some (q.of_class d.0.key b.0.flags) (each (λ c. f (OfClass c)) b.0.bases) (each (λ (v : Field). f (OfType v.ty)) b.0.fields) x b.2 in
      record { body = b.0; is_body = body-known t c d.0 b.0 d.1 b.1; bases = j.0; is_bases = j.2; members = j.1; is_members = j.3 }

  part-answered : (k : Bool) (w : TypeKind) → Answered w → (s : Step) (r : TypeRow) → row_part t (record { kind = w; konst = k }) s ≡ Some r → Answered r.kind
  part-answered k (kind.Array to n) h (step.Elem i) r e =
      let v = element-row t k to n i r e in
      let y = option_map-some (q.of_array n) (looked q t h.level (OfType to)) h.answer h.is_answer in
      subst (λ (z : TypeRow). Answered z.kind) v.2 (type-answered h.level h.is_level to y.0 y.1 v.0 v.1)
  part-answered k (kind.Class c) h (step.Base i) r e =
      let b = body-of (looked q t h.level) c h.answer h.is_answer in
      let v = base-row t k c b.body b.is_body i r e in
      let y = each-item (λ c. looked q t h.level (OfClass c)) b.body.bases b.bases b.is_bases i v.0 v.1 in
      subst (λ (z : TypeRow). Answered z.kind) v.2 (class-answered h.level h.is_level v.0 y.0 y.1)
  part-answered k (kind.Class c) h (step.Field i) r e =
      let b = body-of (looked q t h.level) c h.answer h.is_answer in
      let v = field-row t k c b.body b.is_body i r e in
      let y = each-item (λ (f : Field). looked q t h.level (OfType f.ty)) b.body.fields b.members b.is_members i v.0 v.1 in
      type-answered h.level h.is_level v.0.ty y.0 y.1 r v.2
  part-answered k w h s r e = absurd (cc)

  pub below-answered : (ss : List Step) (r : TypeRow) → Answered r.kind → (w : TypeRow) → row_below t r ss ≡ Some w → Answered w.kind
  below-answered [] r h w e = subst (λ (z : TypeRow). Answered z.kind) (some_inj r w e) h
  below-answered (s ∷ ss) r h w e =
      let i = option_and_then-some (λ (v : TypeRow). row_below t v ss) (row_part t r s) w e in
      below-answered ss i.0 (part-answered r.konst r.kind h s i.0 i.1) w i.2

  -- a member of an answered class is answered
  pub member-answered : (c : ClassId) → Answered (kind.Class c) → (m : ℕ) (f : Field) → field_of t c m ≡ Some f → (x : R) × (asked q t (OfType f.ty) ≡ Some x)
  unfolding asked
  member-answered c h m f e =
      let b = body-of (looked q t h.level) c h.answer h.is_answer in
      let v = option_and_then-some (λ (w : ClassBody). slice_get w.fields m) (body_at t c) f e in
      let same : v.0 ≡ b.body = some_inj v.0 b.body (sym v.1 ∙ b.is_body) in
      let y = each-item (λ (f : Field). looked q t h.level (OfType f.ty)) b.body.fields b.members b.is_members m f (subst (λ (w : ClassBody). slice_get w.fields m ≡ Some f) same v.2) in
      (y.0, looked-keeps q t t (Grows-same t) h.level most_levels h.is_level (OfType f.ty) y.0 y.1)

  -- the elements of an answered array are answered
  pub element-answered : (to : TypeId) (n : ℕ) → Answered (kind.Array to n) → (x : R) × (asked q t (OfType to) ≡ Some x)
  unfolding asked
  element-answered to n h =
      let y = option_map-some (q.of_array n) (looked q t h.level (OfType to)) h.answer h.is_answer in
      (y.0, looked-keeps q t t (Grows-same t) h.level most_levels h.is_level (OfType to) y.0 y.1)

  index-answered : (past : Bool) (i : ℕ) (k : Bool) (w : TypeKind) → Answered w → (r : TypeRow) → index_row t past i (record { kind = w; konst = k }) ≡ Some r → Answered r.kind
  index-answered past i k (kind.Array to n) h r e =
      let a = where-true (if past then i == n else nat_lt i n) (option_map (element k) (slice_get t.rows to.0)) r e in
      let v = option_map-some (element k) (slice_get t.rows to.0) r a.1 in
      let y = option_map-some (q.of_array n) (looked q t h.level (OfType to)) h.answer h.is_answer in
      subst (λ (z : TypeRow). Answered z.kind) v.2 (type-answered h.level h.is_level to y.0 y.1 v.0 v.1)
  index-answered past i k w h r e = absurd (cc)

  many-answered : (many past : Bool) (i : ℕ) (v r : TypeRow) → Answered v.kind → (if many then index_row t past i v else Some v) ≡ Some r → Answered r.kind
  many-answered true past i v r h e = index-answered past i v.konst v.kind h r e
  many-answered false past i v r h e = subst (λ (z : TypeRow). Answered z.kind) (some_inj v r e) h

  pub spot-answered : (past : Bool) (x : Spot) (r : TypeRow) → Answered r.kind → (w : TypeRow) → spot_row t past x r ≡ Some w → Answered w.kind
  spot-answered past x r h w e =
      let i = option_and_then-some (λ (v : TypeRow). if x.many then index_row t past x.index v else Some v) (row_below t r x.array) w e in
      many-answered x.many past x.index i.0 w (below-answered x.array r h i.0 i.1) i.2

  whole-answered : (count : Option ℕ) (ty : TypeId) (r : TypeRow) (x : R) → slice_get t.rows ty.0 ≡ Some r → asked q t (OfType ty) ≡ Some x → Answered (whole_kind count ty r.kind)
  unfolding asked
  whole-answered None ty r x at e = type-answered most_levels (omega arith) ty x e r at
  whole-answered (Some n) ty r x at e = record { level = most_levels; is_level = omega arith; answer = q.of_array n x; is_answer = ap (option_map (q.of_array n)) e }

pub root-answered : (t : Tables) (os : Objects) (o : Object) (h : ObjectFits t os o) → Answered extent_of t h.row.kind
root-answered t os o h =
    let x = is_some-true (asked extent_of t (OfType o.ty)) h.complete in
    let r = option_map-some (λ (w : TypeRow). record { kind = whole_kind o.count o.ty w.kind; konst = o.konst || w.konst }) (slice_get t.rows o.ty.0) h.row h.is_row in
    subst (λ (z : TypeRow). Answered extent_of t z.kind) r.2 (whole-answered extent_of t o.count o.ty r.0 x.0 r.1 x.1)

-- so the type of what a place designates is answered
pub place-answered : (t : Tables) (os : Objects) (p : Path) (r : TypeRow) → Fit t os → row_of t os p ≡ Some r → Answered extent_of t r.kind
place-answered t os p r h e =
    let i = option_and_then-some (λ (o : Object). option_and_then (spot_row t p.past (spot p)) (root_row t o)) (slice_get os p.object) r e in
    let j = option_and_then-some (spot_row t p.past (spot p)) (root_row t i.0) r i.2 in
    let fits = h p.object i.0 i.1 in
    let same : fits.row ≡ j.0 = some_inj fits.row j.0 (sym fits.is_row ∙ j.1) in
    spot-answered extent_of t p.past (spot p) j.0 (subst (λ (z : TypeRow). Answered extent_of t z.kind) same (root-answered t os i.0 fits)) r j.2

pub member-complete : (t : Tables) (os : Objects) (p : Path) (r : TypeRow) (c : ClassId) (m : ℕ) (f : Field) → Fit t os → row_of t os p ≡ Some r → r.kind ≡ kind.Class c → field_of t c m ≡ Some f → is_complete t f.ty ≡ true
member-complete t os p r c m f h e k at =
    let x = member-answered extent_of t c (subst (Answered extent_of t) k (place-answered t os p r h e)) m f at in
    ap is_some x.1

pub element-complete : (t : Tables) (os : Objects) (p : Path) (r : TypeRow) (to : TypeId) (n : ℕ) → Fit t os → row_of t os p ≡ Some r → r.kind ≡ kind.Array to n → is_complete t to ≡ true
element-complete t os p r to n h e k =
    let x = element-answered extent_of t to n (subst (Answered extent_of t) k (place-answered t os p r h e)) in
    ap is_some x.1

pub complete-known : (t : Tables) (ty : TypeId) → is_complete t ty ≡ true → ty.0 < length t.rows
complete-known t ty e = let x = complete-new t phase.Unborn ty e in (asked-fits t [] phase.Unborn).known ty x.0 x.1
