-- What a released object holds is told by its type alone.
use Rattle.std.proofs.Common.{◌≡◌, ℕ, zero, suc, ◌<◌, Bool, false, List, [], ◌∷◌, length, Option, None, Some, refl, sym, ap, subst, ◌∙◌, slice_get, arith, if◌then◌else◌}
use Rattle.std.specs.Prelude.{option_map, option_and_then, ◌||◌}
use Rattle.std.proofs.lemmas.Bool.{lt-ltb}
use Rattle.cx_type_defs.specs.declared.ids.Step.TheVariants as step
use Rattle.cx_type_defs.specs.declared.ids.TypeId.{TypeId}
use Rattle.cx_type_defs.specs.declared.ids.ClassId.{ClassId}
use Rattle.cx_type_defs.specs.declared.kind.TypeRow.{TypeRow}
use Rattle.cx_type_defs.specs.declared.kind.TypeKind.{TypeKind}
use Rattle.cx_type_defs.specs.declared.kind.TypeKind.TheVariants as kind
use Rattle.cx_type_defs.specs.declared.decl.Field.{Field}
use Rattle.cx_type_defs.specs.declared.decl.ClassBody.{ClassBody}
use Rattle.cx_type_defs.specs.declared.decl.ClassDecl.{ClassDecl}
use Rattle.cx_type_defs.specs.declared.decl.ClassKey.{ClassKey}
use Rattle.cx_type_defs.specs.declared.decl.ClassKey.TheVariants as key
use Rattle.cx_type_defs.specs.Tables.{Tables, body_at}
use Rattle.cx_type_defs.specs.Questions.{Part, OfType, OfClass, each, body_answer, class_answer, kind_answer, looked, most_levels, asked}
use Rattle.cx_type_defs.proofs.Lists.{some_inj, option_and_then-some, option_map-some, joined-some}
use Rattle.cx_state.specs.declared.kind.Phase.{Phase}
use Rattle.cx_state.specs.declared.kind.Phase.TheVariants as phase
use Rattle.cx_state.specs.Objects.{Tree, Trees, Leaf, Row, Class, Union, Active, End, More, trees, copies, size, tree_at, Object, Objects}
use Rattle.cx_state.specs.Places.{element, base_row, row_part, whole_kind, root_row}
use Rattle.cx_state.specs.Steps.{blank, new_in, ended, all_ended}
use Rattle.cx_state.specs.Counts.{whole_tree, ended_tree}
use Rattle.cx_state.specs.Forms.{AllKnown, ClassForm, DeclForm, RowForm, TreeFits, ObjectFits}
use Rattle.cx_state.proofs.Fitting.{class-struct, TreeFits-here, TreeFits-part}
use Rattle.cx_state.proofs.NewTrees.{each-at, each-length, size-trees, trees-at, size-copies, copies-at, body-known, made_class, to-blank}
use Rattle.cx_state.proofs.EndedTrees.{size-all_ended, listed-ended, scalar-ended}
use Rattle.cx_state.proofs.Making.{at-within, new-of, new_tree-is}

trees-same : (xs ys : Trees) → size xs ≡ size ys → ((i : ℕ) (x y : Tree) → tree_at xs i ≡ Some x → tree_at ys i ≡ Some y → x ≡ y) → xs ≡ ys
trees-same End End e h = refl
trees-same End (More y ys) e h = absurd (omega arith)
trees-same (More x xs) End e h = absurd (omega arith)
trees-same (More x xs) (More y ys) e h = ap (λ z. More z xs) (h 0 x y refl refl) ∙ ap (More y) (trees-same xs ys (omega arith) (λ i a b. h (suc i) a b))

pub tree_at-within : (xs : Trees) (i : ℕ) (x : Tree) → tree_at xs i ≡ Some x → i < size xs
tree_at-within End i x e = absurd (cc)
tree_at-within (More y xs) zero x e = omega arith
tree_at-within (More y xs) (suc i) x e = omega (arith, tree_at-within xs i x e)

pub AllKnown-at : (t : Tables) (fs : List Field) → AllKnown t fs → (i : ℕ) (f : Field) → slice_get fs i ≡ Some f → f.ty.0 < length t.rows
AllKnown-at t [] h i f e = absurd (cc)
AllKnown-at t (x ∷ fs) h zero f e = subst (λ (z : Field). z.ty.0 < length t.rows) (some_inj x f e) h.0
AllKnown-at t (x ∷ fs) h (suc i) f e = AllKnown-at t fs h.1 i f e

-- the types of the parts that are there

pub element-at : (t : Tables) (k : Bool) (to : TypeId) (n i : ℕ) (r : TypeRow) → i < n → slice_get t.rows to.0 ≡ Some r → row_part t (record { kind = kind.Array to n; konst = k }) (step.Elem i) ≡ Some (element k r)
element-at t k to n i r l e = ap (λ b. if b then option_map (element k) (slice_get t.rows to.0) else None) (lt-ltb i n l) ∙ ap (option_map (element k)) e

pub base-at : (t : Tables) (k : Bool) (c : ClassId) (b : ClassBody) → body_at t c ≡ Some b → (i : ℕ) (d : ClassId) → slice_get b.bases i ≡ Some d → row_part t (record { kind = kind.Class c; konst = k }) (step.Base i) ≡ Some (base_row d)
base-at t k c b e i d f = ap (option_map base_row) (ap (option_and_then (λ (w : ClassBody). slice_get w.bases i)) e ∙ f)

pub field-at : (t : Tables) (k : Bool) (c : ClassId) (b : ClassBody) → body_at t c ≡ Some b → (i : ℕ) (f : Field) (r : TypeRow) → slice_get b.fields i ≡ Some f → slice_get t.rows f.ty.0 ≡ Some r → row_part t (record { kind = kind.Class c; konst = k }) (step.Field i) ≡ Some r
field-at t k c b e i f r g h = ap (option_and_then (λ (w : Field). slice_get t.rows w.ty.0)) (ap (option_and_then (λ (w : ClassBody). slice_get w.fields i)) e ∙ g) ∙ h

module _ (t : Tables) (os : Objects) where
  -- what fits ends as the new tree that is answered
  pub record Ends (f : Part → Option Tree) : Type 0 where
    pub type_ends : (id : TypeId) (y : Tree) → f (OfType id) ≡ Some y → (r : TypeRow) → slice_get t.rows id.0 ≡ Some r → (k : Bool) (x : Tree) → TreeFits t os (record { kind = r.kind; konst = k }) x → ended x ≡ y
    pub class_ends : (c : ClassId) (y : Tree) → f (OfClass c) ≡ Some y → (k : Bool) (x : Tree) → TreeFits t os (record { kind = kind.Class c; konst = k }) x → ended x ≡ y

  items-end : (f : Part → Option Tree) → Ends f → (to : TypeId) (n : ℕ) (y : Tree) → f (OfType to) ≡ Some y → (k : Bool) (xs : Trees) → RowForm t to n (Row xs) → TreeFits t os (record { kind = kind.Array to n; konst = k }) (Row xs) → all_ended xs ≡ copies n y
  items-end f h to n y e k xs form fits =
      trees-same (all_ended xs) (copies n y) (size-all_ended xs ∙ form.0 ∙ sym (size-copies n y)) (λ i a b ea eb.
      let r = at-within t.rows to.0 form.1 in
      let z = listed-ended xs i a ea in
      let l : i < n = (let w = tree_at-within xs i z.0 z.1 in let v = form.0 in omega arith) in
      let fit : TreeFits t os (element k r.0) z.0 = TreeFits-part t os (record { kind = kind.Array to n; konst = k }) (Row xs) fits (step.Elem i) (element k r.0) z.0 (element-at t k to n i r.0 l r.1) z.1 in
      sym z.2 ∙ h.type_ends to y e r.0 r.1 (k || r.0.konst) z.0 fit ∙ copies-at n y i b eb)

  row-ends : (f : Part → Option Tree) → Ends f → (to : TypeId) (n : ℕ) (y : Tree) → f (OfType to) ≡ Some y → (k : Bool) (x : Tree) → RowForm t to n x → TreeFits t os (record { kind = kind.Array to n; konst = k }) x → ended x ≡ Row (copies n y)
  row-ends f h to n y e k (Row xs) form fits = ap Row (items-end f h to n y e k xs form fits)
  row-ends f h to n y e k (Leaf v) form fits = absurd form
  row-ends f h to n y e k (Class p bs ms) form fits = absurd form
  row-ends f h to n y e k Union form fits = absurd form
  row-ends f h to n y e k (Active m x) form fits = absurd form

  pub array-ends : (f : Part → Option Tree) → Ends f → (to : TypeId) (n : ℕ) (y : Tree) → f (OfType to) ≡ Some y → (k : Bool) (x : Tree) → TreeFits t os (record { kind = kind.Array to n; konst = k }) x → ended x ≡ Row (copies n y)
  array-ends f h to n y e k x fits = row-ends f h to n y e k x (TreeFits-here t os (record { kind = kind.Array to n; konst = k }) x fits) fits

  bases-end : (f : Part → Option Tree) → Ends f → (c : ClassId) (b : ClassBody) → body_at t c ≡ Some b → (ys : List Tree) → each (λ c. f (OfClass c)) b.bases ≡ Some ys → (k : Bool) (p : Phase) (bs ms : Trees) → size bs ≡ length b.bases
      → TreeFits t os (record { kind = kind.Class c; konst = k }) (Class p bs ms) → all_ended bs ≡ trees ys
  bases-end f h c b e ys ey k p bs ms l fits =
      trees-same (all_ended bs) (trees ys) (size-all_ended bs ∙ l ∙ sym (size-trees ys ∙ each-length (λ c. f (OfClass c)) b.bases ys ey)) (λ i a w ea ew.
      let z = listed-ended bs i a ea in
      let v = each-at (λ c. f (OfClass c)) b.bases ys ey i w (sym (trees-at ys i) ∙ ew) in
      let fit : TreeFits t os (base_row v.0) z.0 = TreeFits-part t os (record { kind = kind.Class c; konst = k }) (Class p bs ms) fits (step.Base i) (base_row v.0) z.0 (base-at t k c b e i v.0 v.1) z.1 in
      sym z.2 ∙ h.class_ends v.0 w v.2 false z.0 fit)

  members-end : (f : Part → Option Tree) → Ends f → (c : ClassId) (b : ClassBody) → body_at t c ≡ Some b → AllKnown t b.fields → (ys : List Tree) → each (λ (v : Field). f (OfType v.ty)) b.fields ≡ Some ys → (k : Bool) (p : Phase) (bs ms : Trees) → size ms ≡ length b.fields
      → TreeFits t os (record { kind = kind.Class c; konst = k }) (Class p bs ms) → all_ended ms ≡ trees ys
  members-end f h c b e known ys ey k p bs ms l fits =
      trees-same (all_ended ms) (trees ys) (size-all_ended ms ∙ l ∙ sym (size-trees ys ∙ each-length (λ (v : Field). f (OfType v.ty)) b.fields ys ey)) (λ i a w ea ew.
      let z = listed-ended ms i a ea in
      let v = each-at (λ (v : Field). f (OfType v.ty)) b.fields ys ey i w (sym (trees-at ys i) ∙ ew) in
      let r = at-within t.rows v.0.ty.0 (AllKnown-at t b.fields known i v.0 v.1) in
      let fit : TreeFits t os r.0 z.0 = TreeFits-part t os (record { kind = kind.Class c; konst = k }) (Class p bs ms) fits (step.Field i) r.0 z.0 (field-at t k c b e i v.0 r.0 v.1 r.1) z.1 in
      sym z.2 ∙ h.type_ends v.0.ty w v.2 r.0 r.1 r.0.konst z.0 fit)

  struct-ends : (b : ClassBody) (bs ms : List Tree) (x : Tree) → ClassForm key.Struct b x → ((p : Phase) (xs ys : Trees) → Class p xs ys ≡ x → size xs ≡ length b.bases → size ys ≡ length b.fields → (all_ended xs ≡ trees bs) × (all_ended ys ≡ trees ms)) → ended x ≡ Class phase.Ended (trees bs) (trees ms)
  struct-ends b bs ms (Class p xs ys) h g = let w = g p xs ys refl h.0 h.1 in ap (λ l. Class phase.Ended l (all_ended ys)) w.0 ∙ ap (Class phase.Ended (trees bs)) w.1
  struct-ends b bs ms (Leaf v) h g = absurd h
  struct-ends b bs ms (Row xs) h g = absurd h
  struct-ends b bs ms Union h g = absurd h
  struct-ends b bs ms (Active m x) h g = absurd h

  union-ends : (b : ClassBody) (x : Tree) → ClassForm key.Union b x → ended x ≡ Union
  union-ends b Union h = refl
  union-ends b (Active m x) h = refl
  union-ends b (Leaf v) h = absurd h
  union-ends b (Row xs) h = absurd h
  union-ends b (Class p bs ms) h = absurd h

  key-ends : (k : ClassKey) (b : ClassBody) (bs ms : List Tree) (x : Tree) → ClassForm k b x → ((p : Phase) (xs ys : Trees) → Class p xs ys ≡ x → size xs ≡ length b.bases → size ys ≡ length b.fields → (all_ended xs ≡ trees bs) × (all_ended ys ≡ trees ms)) → ended x ≡ made_class k phase.Ended (trees bs) (trees ms)
  key-ends key.Union b bs ms x h g = union-ends b x h
  key-ends key.Struct b bs ms x h g = struct-ends b bs ms x h g
  key-ends key.Class b bs ms x h g = struct-ends b bs ms x (class-struct b x h) g

  body-ends : (f : Part → Option Tree) → Ends f → (c : ClassId) (w : ClassKey) (b : ClassBody) → body_at t c ≡ Some b → AllKnown t b.fields → (bs ms : List Tree) → each (λ c. f (OfClass c)) b.bases ≡ Some bs → each (λ (v : Field). f (OfType v.ty)) b.fields ≡ Some ms → (k : Bool) (x : Tree)
      → ClassForm w b x → TreeFits t os (record { kind = kind.Class c; konst = k }) x → ended x ≡ made_class w phase.Ended (trees bs) (trees ms)
  body-ends f h c w b at known bs ms eb em k x form fits =
      key-ends w b bs ms x form (λ p xs ys is ex ey.
      let fit : TreeFits t os (record { kind = kind.Class c; konst = k }) (Class p xs ys) = subst (TreeFits t os (record { kind = kind.Class c; konst = k })) (sym is) fits in
      (bases-end f h c b at bs eb k p xs ys ex fit, members-end f h c b at known ms em k p xs ys ey fit))

  class-ends : (f : Part → Option Tree) → Ends f → (c : ClassId) (y : Tree) → class_answer (new_in phase.Ended) f (slice_get t.classes c.0) ≡ Some y → (k : Bool) (x : Tree) → TreeFits t os (record { kind = kind.Class c; konst = k }) x → ended x ≡ y
  class-ends f h c y e k x fits =
      let d = option_and_then-some (λ (d : ClassDecl). option_and_then (body_answer (new_in phase.Ended) f d.key) d.body) (slice_get t.classes c.0) y e in
      let b = option_and_then-some (body_answer (new_in phase.Ended) f d.0.key) d.0.body y d.2 in
      let j = joined-some (λ bs ms. made_class d.0.key phase.Ended (trees bs) (trees ms)) (each (λ c. f (OfClass c)) b.0.bases) (each (λ (v : Field). f (OfType v.ty)) b.0.fields) y b.2 in
      let w : DeclForm t (Some d.0) x = subst (λ o. DeclForm t o x) d.1 (TreeFits-here t os (record { kind = kind.Class c; konst = k }) x fits) in
      let same : w.body ≡ b.0 = some_inj w.body b.0 (sym w.is_body ∙ b.1) in
      let known : AllKnown t b.0.fields = subst (λ (z : ClassBody). AllKnown t z.fields) same w.known in
      let form : ClassForm d.0.key b.0 x = subst (λ z. ClassForm d.0.key z x) same w.form in
      let made : ended x ≡ made_class d.0.key phase.Ended (trees j.0) (trees j.1) = body-ends f h c d.0.key b.0 (body-known t c d.0 b.0 d.1 b.1) known j.0 j.1 j.2 j.3 k x form fits in
      subst (λ z. ended x ≡ z) {x = made_class d.0.key phase.Ended (trees j.0) (trees j.1)} j.4 made

  kind-ends : (f : Part → Option Tree) → Ends f → (k : TypeKind) (y : Tree) → kind_answer (new_in phase.Ended) t f k ≡ Some y → (c : Bool) (x : Tree) → TreeFits t os (record { kind = k; konst = c }) x → ended x ≡ y
  kind-ends f h kind.Void y e c x fits = absurd (cc)
  kind-ends f h kind.Nullptr y e c x fits = scalar-ended t os kind.Nullptr x (TreeFits-here t os (record { kind = kind.Nullptr; konst = c }) x fits) ∙ some_inj blank y e
  kind-ends f h (kind.Int i) y e c x fits = scalar-ended t os (kind.Int i) x (TreeFits-here t os (record { kind = kind.Int i; konst = c }) x fits) ∙ some_inj blank y e
  kind-ends f h (kind.Enum i) y e c x fits = scalar-ended t os (kind.Enum i) x (TreeFits-here t os (record { kind = kind.Enum i; konst = c }) x fits) ∙ some_inj blank y e
  kind-ends f h (kind.Pointer to) y e c x fits = scalar-ended t os (kind.Pointer to) x (TreeFits-here t os (record { kind = kind.Pointer to; konst = c }) x fits) ∙ to-blank t os phase.Ended f to y e
  kind-ends f h (kind.Reference to) y e c x fits = scalar-ended t os (kind.Reference to) x (TreeFits-here t os (record { kind = kind.Reference to; konst = c }) x fits) ∙ to-blank t os phase.Ended f to y e
  kind-ends f h (kind.Array to n) y e c x fits = let i = option_map-some (λ z. Row (copies n z)) (f (OfType to)) y e in array-ends f h to n i.0 i.1 c x fits ∙ i.2
  kind-ends f h (kind.Class d) y e c x fits = class-ends f h d y e c x fits

  looked-ends : (n : ℕ) → Ends (looked (new_in phase.Ended) t n)
  unfolding looked
  looked-ends zero = record { type_ends = λ id y e. absurd (cc); class_ends = λ c y e. absurd (cc) }
  looked-ends (suc n) = record {
    type_ends = λ id y e r at k x fits. kind-ends (looked (new_in phase.Ended) t n) (looked-ends n) r.kind y (sym (ap (option_and_then (λ (w : TypeRow). kind_answer (new_in phase.Ended) t (looked (new_in phase.Ended) t n) w.kind)) at) ∙ e) k x fits;
    class_ends = λ c y e k x fits. class-ends (looked (new_in phase.Ended) t n) (looked-ends n) c y e k x fits;
  }

  asked-ends : Ends (asked (new_in phase.Ended) t)
  unfolding asked
  asked-ends = looked-ends most_levels

  whole-ends : (count : Option ℕ) (ty : TypeId) (r : TypeRow) (y : Tree) → slice_get t.rows ty.0 ≡ Some r → asked (new_in phase.Ended) t (OfType ty) ≡ Some y → (k : Bool) (x : Tree) → TreeFits t os (record { kind = whole_kind count ty r.kind; konst = k }) x → ended x ≡ whole_tree count y
  whole-ends None ty r y at e k x fits = asked-ends.type_ends ty y e r at k x fits
  whole-ends (Some n) ty r y at e k x fits = array-ends (asked (new_in phase.Ended) t) asked-ends ty n y e k x fits

  pub object-ends : (o : Object) → ObjectFits t os o → ended o.tree ≡ ended_tree t o
  object-ends o h =
      let w = new-of t phase.Ended o.ty h.complete in
      let root : TypeRow = record { kind = whole_kind o.count o.ty w.row.kind; konst = o.konst || w.row.konst } in
      let is : root_row t o ≡ Some root = ap (option_map (λ (r : TypeRow). record { kind = whole_kind o.count o.ty r.kind; konst = o.konst || r.konst })) w.is_row in
      let same : h.row ≡ root = some_inj h.row root (sym h.is_row ∙ is) in
      whole-ends o.count o.ty w.row w.tree w.is_row w.is_tree (o.konst || w.row.konst) o.tree (subst (λ (z : TypeRow). TreeFits t os z o.tree) same h.parts) ∙ ap (whole_tree o.count) (new_tree-is t phase.Ended o.ty w)
