-- Objects fit where the types grow, and places keep their types.
use Rattle.std.proofs.Common.{◌≡◌, ℕ, ◌<◌, ◌≤◌, Bool, true, false, List, [], ◌∷◌, length, Option, None, Some, inl, inr, refl, sym, ap, subst, ◌∙◌, slice_get, arith, if◌then◌else◌}
use Rattle.std.specs.Prelude.{option_map, option_and_then, nat_lt, is_some, ◌==◌, ◌||◌}
use Rattle.cx_type_defs.specs.declared.ids.Step.{Step}
use Rattle.cx_type_defs.specs.declared.ids.Step.TheVariants as step
use Rattle.cx_type_defs.specs.declared.ids.TypeId.{TypeId}
use Rattle.cx_type_defs.specs.declared.ids.ClassId.{ClassId}
use Rattle.cx_type_defs.specs.declared.kind.TypeRow.{TypeRow}
use Rattle.cx_type_defs.specs.declared.kind.TypeKind.{TypeKind}
use Rattle.cx_type_defs.specs.declared.kind.TypeKind.TheVariants as kind
use Rattle.cx_type_defs.specs.declared.decl.Field.{Field}
use Rattle.cx_type_defs.specs.declared.decl.ClassBody.{ClassBody}
use Rattle.cx_type_defs.specs.declared.decl.ClassDecl.{ClassDecl}
use Rattle.cx_type_defs.specs.declared.decl.ClassKey.{ClassKey}
use Rattle.cx_type_defs.specs.declared.decl.ClassKey.TheVariants as key
use Rattle.cx_type_defs.specs.Tables.{Tables, Grows, ClassGrows, body_at, base_of, field_of}
use Rattle.cx_type_defs.specs.Questions.{OfType, asked, extent_of, is_complete}
use Rattle.cx_type_defs.proofs.Lists.{some_inj, option_and_then-some, option_map-some, Along-at, Along-length}
use Rattle.cx_type_defs.proofs.Looking.{row-grows, under_at-grows, Stays-some, asked-keeps}
use Rattle.cx_state.specs.declared.kind.Scalar.{Scalar}
use Rattle.cx_state.specs.declared.kind.Scalar.TheVariants as scalar
use Rattle.cx_state.specs.Objects.{Path, Tree, Trees, Leaf, Row, Class, Union, Active, size, tree_at, part, below, Object, Objects}
use Rattle.cx_state.specs.Places.{element, elements, base_row, row_part, row_below, whole_kind, root_row, Spot, spot, spot_row, index_row, row_of}
use Rattle.cx_state.specs.Alike.{Plain, Itself, PointerTo, ReferenceTo, ArrayOf, IsMadeOf, Is, Alike}
use Rattle.cx_state.specs.Forms.{IsPointee, Designates, MayHold, AllKnown, ClassForm, DeclForm, ScalarForm, RowForm, Form, TreeFits, ObjectFits, Fit}
use Rattle.cx_state.proofs.Fitting.{TreeFits-here, TreeFits-part, class-struct}
use Rattle.cx_state.proofs.NewTrees.{where-true, body-known}
use Rattle.cx_state.proofs.Complete.{is_some-true}
use Rattle.cx_state.proofs.Stepped.{only-part}
use Rattle.cx_state.proofs.Making.{at-within}
use Rattle.cx_state.proofs.Released.{tree_at-within, AllKnown-at, element-at, base-at, field-at}

-- each part that is there has a type

list-part : {A : Type 0} (ls : List A) (xs : Trees) (i : ℕ) (y : Tree) → size xs ≡ length ls → tree_at xs i ≡ Some y → (a : A) × (slice_get ls i ≡ Some a)
list-part ls xs i y l e = at-within ls i (let w = tree_at-within xs i y e in omega arith)

module _ (t : Tables) (k : Bool) where
  row-part : (to : TypeId) (n : ℕ) (x : Tree) → RowForm t to n x → (s : Step) (y : Tree) → part x s ≡ Some y → (q : TypeRow) × (row_part t (record { kind = kind.Array to n; konst = k }) s ≡ Some q)
  row-part to n (Row xs) h (step.Elem i) y e =
      let r = at-within t.rows to.0 h.1 in
      let l : i < n = (let w = tree_at-within xs i y e in let v = h.0 in omega arith) in
      (element k r.0, element-at t k to n i r.0 l r.1)
  row-part to n (Row xs) h (step.Base i) y e = absurd (cc)
  row-part to n (Row xs) h (step.Field i) y e = absurd (cc)
  row-part to n (Leaf v) h s y e = absurd h
  row-part to n (Class p bs ms) h s y e = absurd h
  row-part to n Union h s y e = absurd h
  row-part to n (Active m x) h s y e = absurd h

  module _ (c : ClassId) (b : ClassBody) (at : body_at t c ≡ Some b) (known : AllKnown t b.fields) where
    base-part : (i : ℕ) (a : ClassId) → slice_get b.bases i ≡ Some a → (q : TypeRow) × (row_part t (record { kind = kind.Class c; konst = k }) (step.Base i) ≡ Some q)
    base-part i a e = (base_row a, base-at t k c b at i a e)

    field-part : (i : ℕ) (f : Field) → slice_get b.fields i ≡ Some f → (q : TypeRow) × (row_part t (record { kind = kind.Class c; konst = k }) (step.Field i) ≡ Some q)
    field-part i f e = let r = at-within t.rows f.ty.0 (AllKnown-at t b.fields known i f e) in (r.0, field-at t k c b at i f r.0 e r.1)

    struct-part : (x : Tree) → ClassForm key.Struct b x → (s : Step) (y : Tree) → part x s ≡ Some y → (q : TypeRow) × (row_part t (record { kind = kind.Class c; konst = k }) s ≡ Some q)
    struct-part (Class p bs ms) h (step.Base i) y e = let a = list-part b.bases bs i y h.0 e in base-part i a.0 a.1
    struct-part (Class p bs ms) h (step.Field i) y e = let a = list-part b.fields ms i y h.1 e in field-part i a.0 a.1
    struct-part (Class p bs ms) h (step.Elem i) y e = absurd (cc)
    struct-part (Leaf v) h s y e = absurd h
    struct-part (Row xs) h s y e = absurd h
    struct-part Union h s y e = absurd h
    struct-part (Active m x) h s y e = absurd h

    union-part : (x : Tree) → ClassForm key.Union b x → (s : Step) (y : Tree) → part x s ≡ Some y → (q : TypeRow) × (row_part t (record { kind = kind.Class c; konst = k }) s ≡ Some q)
    union-part Union h s y e = absurd (cc)
    union-part (Active m x) h (step.Field i) y e = let w = only-part m i x y e in let a = at-within b.fields i (let v = w.0 in omega arith) in field-part i a.0 a.1
    union-part (Active m x) h (step.Base i) y e = absurd (cc)
    union-part (Active m x) h (step.Elem i) y e = absurd (cc)
    union-part (Leaf v) h s y e = absurd h
    union-part (Row xs) h s y e = absurd h
    union-part (Class p bs ms) h s y e = absurd h

    key-part : (w : ClassKey) (x : Tree) → ClassForm w b x → (s : Step) (y : Tree) → part x s ≡ Some y → (q : TypeRow) × (row_part t (record { kind = kind.Class c; konst = k }) s ≡ Some q)
    key-part key.Union x h s y e = union-part x h s y e
    key-part key.Struct x h s y e = struct-part x h s y e
    key-part key.Class x h s y e = struct-part x (class-struct b x h) s y e

  decl-part : (c : ClassId) (o : Option ClassDecl) → slice_get t.classes c.0 ≡ o → (x : Tree) → DeclForm t o x → (s : Step) (y : Tree) → part x s ≡ Some y → (q : TypeRow) × (row_part t (record { kind = kind.Class c; konst = k }) s ≡ Some q)
  decl-part c None eo x h s y e = absurd h
  decl-part c (Some d) eo x h s y e = key-part c h.body (body-known t c d h.body eo h.is_body) h.known d.key x h.form s y e

  scalar-part : (os : Objects) (w : TypeKind) (x : Tree) → ScalarForm t os w x → (s : Step) (y : Tree) → part x s ≡ Some y → ⊥
  scalar-part os w (Leaf v) h s y e = cc
  scalar-part os w (Row xs) h s y e = h
  scalar-part os w (Class p bs ms) h s y e = h
  scalar-part os w Union h s y e = h
  scalar-part os w (Active m x) h s y e = h

  kind-part : (os : Objects) (w : TypeKind) (x : Tree) → Form t os w x → (s : Step) (y : Tree) → part x s ≡ Some y → (q : TypeRow) × (row_part t (record { kind = w; konst = k }) s ≡ Some q)
  kind-part os kind.Void x h s y e = absurd h
  kind-part os (kind.Array to n) x h s y e = row-part to n x h s y e
  kind-part os (kind.Class c) x h s y e = decl-part c (slice_get t.classes c.0) refl x h s y e
  kind-part os kind.Nullptr x h s y e = absurd (scalar-part os kind.Nullptr x h s y e)
  kind-part os (kind.Int i) x h s y e = absurd (scalar-part os (kind.Int i) x h s y e)
  kind-part os (kind.Enum i) x h s y e = absurd (scalar-part os (kind.Enum i) x h s y e)
  kind-part os (kind.Pointer to) x h s y e = absurd (scalar-part os (kind.Pointer to) x h s y e)
  kind-part os (kind.Reference to) x h s y e = absurd (scalar-part os (kind.Reference to) x h s y e)

pub part-typed : (t : Tables) (os : Objects) (r : TypeRow) (x : Tree) → Form t os r.kind x → (s : Step) (y : Tree) → part x s ≡ Some y → (q : TypeRow) × (row_part t r s ≡ Some q)
part-typed t os r x h s y e = kind-part t r.konst os r.kind x h s y e

-- types along a path stay

module _ (t u : Tables) (g : Grows t u) where
  pub body-grows : (c : ClassId) (b : ClassBody) → body_at t c ≡ Some b → body_at u c ≡ Some b
  body-grows c b e =
      let i = option_and_then-some (λ (d : ClassDecl). d.body) (slice_get t.classes c.0) b e in
      let a = Along-at ClassGrows t.classes u.classes g.class_list c.0 i.0 i.1 in
      ap (option_and_then (λ (d : ClassDecl). d.body)) a.1 ∙ Stays-some i.0.body a.0.body b a.2.body_stays i.2

  pub rows-grow : length t.rows ≤ length u.rows
  rows-grow = Along-length (λ (a b : TypeRow). b ≡ a) t.rows u.rows g.row_list

  kind_part-grows : (k : Bool) (w : TypeKind) (s : Step) (q : TypeRow) → row_part t (record { kind = w; konst = k }) s ≡ Some q → row_part u (record { kind = w; konst = k }) s ≡ Some q
  kind_part-grows k (kind.Array to n) (step.Elem i) q e =
      let a = where-true (nat_lt i n) (option_map (element k) (slice_get t.rows to.0)) q e in
      let r = option_map-some (element k) (slice_get t.rows to.0) q a.1 in
      ap (λ b. if b then option_map (element k) (slice_get u.rows to.0) else None) a.0 ∙ ap (option_map (element k)) (row-grows t u g to.0 r.0 r.1) ∙ ap Some r.2
  kind_part-grows k (kind.Class c) (step.Base i) q e =
      let a = option_map-some base_row (base_of t c i) q e in
      let b = option_and_then-some (λ (w : ClassBody). slice_get w.bases i) (body_at t c) a.0 a.1 in
      ap (option_map base_row) (ap (option_and_then (λ (w : ClassBody). slice_get w.bases i)) (body-grows c b.0 b.1) ∙ b.2) ∙ ap Some a.2
  kind_part-grows k (kind.Class c) (step.Field i) q e =
      let a = option_and_then-some (λ (f : Field). slice_get t.rows f.ty.0) (field_of t c i) q e in
      let b = option_and_then-some (λ (w : ClassBody). slice_get w.fields i) (body_at t c) a.0 a.1 in
      ap (option_and_then (λ (f : Field). slice_get u.rows f.ty.0)) (ap (option_and_then (λ (w : ClassBody). slice_get w.fields i)) (body-grows c b.0 b.1) ∙ b.2) ∙ row-grows t u g a.0.ty.0 q a.2
  kind_part-grows k w s q e = absurd (cc)

  pub row_part-grows : (r : TypeRow) (s : Step) (q : TypeRow) → row_part t r s ≡ Some q → row_part u r s ≡ Some q
  row_part-grows r s q e = kind_part-grows r.konst r.kind s q e

  pub row_below-grows : (ss : List Step) (r q : TypeRow) → row_below t r ss ≡ Some q → row_below u r ss ≡ Some q
  row_below-grows [] r q e = e
  row_below-grows (s ∷ ss) r q e =
      let i = option_and_then-some (λ (v : TypeRow). row_below t v ss) (row_part t r s) q e in
      ap (option_and_then (λ (v : TypeRow). row_below u v ss)) (row_part-grows r s i.0 i.1) ∙ row_below-grows ss i.0 q i.2

  pub root_row-grows : (o : Object) (r : TypeRow) → root_row t o ≡ Some r → root_row u o ≡ Some r
  root_row-grows o r e =
      let i = option_map-some (λ (w : TypeRow). record { kind = whole_kind o.count o.ty w.kind; konst = o.konst || w.konst }) (slice_get t.rows o.ty.0) r e in
      ap (option_map (λ (w : TypeRow). record { kind = whole_kind o.count o.ty w.kind; konst = o.konst || w.konst })) (row-grows t u g o.ty.0 i.0 i.1) ∙ ap Some i.2

  pub index_row-grows : (past : Bool) (i : ℕ) (r q : TypeRow) → index_row t past i r ≡ Some q → index_row u past i r ≡ Some q
  index_row-grows past i r q e =
      let w = option_and_then-some (λ (l : ℕ × TypeId). if (if past then i == l.0 else nat_lt i l.0) then option_map (element r.konst) (slice_get t.rows l.1.0) else None) (elements r.kind) q e in
      let a = where-true (if past then i == w.0.0 else nat_lt i w.0.0) (option_map (element r.konst) (slice_get t.rows w.0.1.0)) q w.2 in
      let v = option_map-some (element r.konst) (slice_get t.rows w.0.1.0) q a.1 in
      ap (option_and_then (λ (l : ℕ × TypeId). if (if past then i == l.0 else nat_lt i l.0) then option_map (element r.konst) (slice_get u.rows l.1.0) else None)) w.1
      ∙ ap (λ b. if b then option_map (element r.konst) (slice_get u.rows w.0.1.0) else None) a.0
      ∙ ap (option_map (element r.konst)) (row-grows t u g w.0.1.0 v.0 v.1) ∙ ap Some v.2

  many-grows : (many past : Bool) (i : ℕ) (r q : TypeRow) → (if many then index_row t past i r else Some r) ≡ Some q → (if many then index_row u past i r else Some r) ≡ Some q
  many-grows true past i r q e = index_row-grows past i r q e
  many-grows false past i r q e = e

  pub spot_row-grows : (past : Bool) (x : Spot) (r q : TypeRow) → spot_row t past x r ≡ Some q → spot_row u past x r ≡ Some q
  spot_row-grows past x r q e =
      let i = option_and_then-some (λ (v : TypeRow). if x.many then index_row t past x.index v else Some v) (row_below t r x.array) q e in
      ap (option_and_then (λ (v : TypeRow). if x.many then index_row u past x.index v else Some v)) (row_below-grows x.array r i.0 i.1) ∙ many-grows x.many past x.index i.0 q i.2

  pub row_of-grows : (os : Objects) (p : Path) (r : TypeRow) → row_of t os p ≡ Some r → row_of u os p ≡ Some r
  row_of-grows os p r e =
      let i = option_and_then-some (λ (o : Object). option_and_then (spot_row t p.past (spot p)) (root_row t o)) (slice_get os p.object) r e in
      let j = option_and_then-some (spot_row t p.past (spot p)) (root_row t i.0) r i.2 in
      ap (option_and_then (λ (o : Object). option_and_then (spot_row u p.past (spot p)) (root_row u o))) i.1 ∙ ap (option_and_then (spot_row u p.past (spot p))) (root_row-grows i.0 j.0 j.1) ∙ spot_row-grows p.past (spot p) j.0 r j.2

  -- forms stay

  made_of-grows : (make : TypeId → TypeKind) (P Q : TypeKind → Type 0) → ((k : TypeKind) → P k → Q k) → (k : TypeKind) → IsMadeOf t make P k → IsMadeOf u make Q k
  made_of-grows make P Q f k h = record { part = h.part; is_made = h.is_made; row = h.row; is_row = row-grows t u g h.part.0 h.row h.is_row; part_is = f h.row.kind h.part_is }

  Is-grows : (p : Plain) (k : TypeKind) → Is t k p → Is u k p
  Is-grows (Itself l) k h = h
  Is-grows (PointerTo p) k h = made_of-grows kind.Pointer (λ q. Is t q p) (λ q. Is u q p) (λ q. Is-grows p q) k h
  Is-grows (ReferenceTo p) k h = made_of-grows kind.Reference (λ q. Is t q p) (λ q. Is u q p) (λ q. Is-grows p q) k h
  Is-grows (ArrayOf p n) k h = made_of-grows (λ of. kind.Array of n) (λ q. Is t q p) (λ q. Is u q p) (λ q. Is-grows p q) k h

  pub Alike-grows : (a b : TypeKind) → Alike t a b → Alike u a b
  Alike-grows a b h = record { plain = h.plain; left = Is-grows h.plain a h.left; right = Is-grows h.plain b h.right }

  IsPointee-grows : (to k : TypeKind) → IsPointee t to k → IsPointee u to k
  IsPointee-grows to k (inl e) = inl e
  IsPointee-grows to k (inr h) = inr (Alike-grows to k h)

  pub Designates-grows : (os : Objects) (to : TypeId) (p : Path) → Designates t os to p → Designates u os to p
  Designates-grows os to p d = record { asked = d.asked; is_asked = row-grows t u g to.0 d.asked d.is_asked; found = d.found; is_found = row_of-grows os p d.found d.is_found; alike = IsPointee-grows d.asked.kind d.found.kind d.alike }

  pub MayHold-grows : (os : Objects) (k : TypeKind) (v : Scalar Path) → MayHold t os k v → MayHold u os k v
  MayHold-grows os (kind.Enum e) (scalar.Int i) h = (under_at-grows t u g e i.ty h.0, h.1)
  MayHold-grows os (kind.Pointer to) (scalar.Place p) h = Designates-grows os to p h
  MayHold-grows os (kind.Reference to) (scalar.Place p) h = Designates-grows os to p h
  MayHold-grows os k v h = h

  ScalarForm-grows : (os : Objects) (k : TypeKind) (x : Tree) → ScalarForm t os k x → ScalarForm u os k x
  ScalarForm-grows os k (Leaf v) h = MayHold-grows os k v h
  ScalarForm-grows os k (Row xs) h = h
  ScalarForm-grows os k (Class p bs ms) h = h
  ScalarForm-grows os k Union h = h
  ScalarForm-grows os k (Active m x) h = h

  RowForm-grows : (to : TypeId) (n : ℕ) (x : Tree) → RowForm t to n x → RowForm u to n x
  RowForm-grows to n (Row xs) h = (h.0, (let a = h.1 in omega (arith, rows-grow)))
  RowForm-grows to n (Leaf v) h = h
  RowForm-grows to n (Class p bs ms) h = h
  RowForm-grows to n Union h = h
  RowForm-grows to n (Active m x) h = h

  AllKnown-grows : (fs : List Field) → AllKnown t fs → AllKnown u fs
  AllKnown-grows [] h = tt
  AllKnown-grows (f ∷ fs) h = ((let a = h.0 in omega (arith, rows-grow)), AllKnown-grows fs h.1)

  DeclForm-grows : (c : ClassId) (o : Option ClassDecl) → slice_get t.classes c.0 ≡ o → (x : Tree) → DeclForm t o x → DeclForm u (slice_get u.classes c.0) x
  DeclForm-grows c None e x h = absurd h
  DeclForm-grows c (Some d) e x h =
      let a = Along-at ClassGrows t.classes u.classes g.class_list c.0 d e in
      let grown : DeclForm u (Some a.0) x = record {
        body = h.body;
        is_body = Stays-some d.body a.0.body h.body a.2.body_stays h.is_body;
        known = AllKnown-grows h.body.fields h.known;
        form = subst (λ k. ClassForm k h.body x) (sym a.2.same_key) h.form;
      } in
      subst (λ o. DeclForm u o x) (sym a.1) grown

  pub Form-grows : (os : Objects) (k : TypeKind) (x : Tree) → Form t os k x → Form u os k x
  Form-grows os kind.Void x h = h
  Form-grows os (kind.Array to n) x h = RowForm-grows to n x h
  Form-grows os (kind.Class c) x h = DeclForm-grows c (slice_get t.classes c.0) refl x h
  Form-grows os kind.Nullptr x h = ScalarForm-grows os kind.Nullptr x h
  Form-grows os (kind.Int i) x h = ScalarForm-grows os (kind.Int i) x h
  Form-grows os (kind.Enum i) x h = ScalarForm-grows os (kind.Enum i) x h
  Form-grows os (kind.Pointer to) x h = ScalarForm-grows os (kind.Pointer to) x h
  Form-grows os (kind.Reference to) x h = ScalarForm-grows os (kind.Reference to) x h

  -- no part has a type that it had not
  pub TreeFits-grows : (os : Objects) (ss : List Step) (r : TypeRow) (x : Tree) → TreeFits t os r x → (q : TypeRow) (y : Tree) → row_below u r ss ≡ Some q → below x ss ≡ Some y → Form u os q.kind y
  TreeFits-grows os [] r x h q y a b = Form-grows os q.kind y (h [] q y a b)
  TreeFits-grows os (s ∷ ss) r x h q y a b =
      let i = option_and_then-some (λ (v : TypeRow). row_below u v ss) (row_part u r s) q a in
      let j = option_and_then-some (λ (v : Tree). below v ss) (part x s) y b in
      let w = part-typed t os r x (TreeFits-here t os r x h) s j.0 j.1 in
      let same : w.0 ≡ i.0 = some_inj w.0 i.0 (sym (row_part-grows r s w.0 w.1) ∙ i.1) in
      TreeFits-grows os ss w.0 j.0 (TreeFits-part t os r x h s w.0 j.0 w.1 j.1) q y (ap (λ z. row_below u z ss) same ∙ i.2) j.2

  pub complete-grows : (ty : TypeId) → is_complete t ty ≡ true → is_complete u ty ≡ true
  complete-grows ty e = let i = is_some-true (asked extent_of t (OfType ty)) e in ap is_some (asked-keeps extent_of t u g (OfType ty) i.0 i.1)

  pub ObjectFits-grows : (os : Objects) (o : Object) → ObjectFits t os o → ObjectFits u os o
  ObjectFits-grows os o h = record { complete = complete-grows o.ty h.complete; row = h.row; is_row = root_row-grows o h.row h.is_row; parts = λ ss q y a b. TreeFits-grows os ss h.row o.tree h.parts q y a b }

  pub Fit-grows : (os : Objects) → Fit t os → Fit u os
  Fit-grows os h n o e = ObjectFits-grows os o (h n o e)
