-- The form of a type and the types along a path say the same of an object.
use Rattle.std.proofs.Common.{◌≡◌, ℕ, zero, suc, ◌*◌, nat_lt, ◌==◌, Bool, true, false, ◌||◌, List, [], ◌∷◌, map, reverse, Option, None, Some, refl, sym, ap, subst, ◌∙◌, slice_get, if◌then◌else◌}
use Rattle.std.specs.Prelude.{option_map, option_and_then}
use Rattle.std.specs.List.{find, list_any}
use Rattle.cx_type_defs.specs.declared.ids.Step.{Step}
use Rattle.cx_type_defs.specs.declared.ids.Step.TheVariants as step
use Rattle.cx_type_defs.specs.declared.ids.TypeId.{TypeId}
use Rattle.cx_type_defs.specs.declared.ids.ClassId.{ClassId}
use Rattle.cx_type_defs.specs.declared.kind.TypeRow.{TypeRow}
use Rattle.cx_type_defs.specs.declared.kind.TypeKind.{TypeKind}
use Rattle.cx_type_defs.specs.declared.kind.TypeKind.TheVariants as kind
use Rattle.cx_type_defs.specs.declared.decl.Field.{Field}
use Rattle.cx_type_defs.specs.declared.decl.ClassBody.{ClassBody}
use Rattle.cx_type_defs.specs.declared.decl.ClassDecl.{ClassDecl}
use Rattle.cx_type_defs.specs.declared.decl.ClassKey.{ClassKey}
use Rattle.cx_type_defs.specs.declared.decl.ClassKey.TheVariants as key
use Rattle.cx_type_defs.specs.Tables.{Tables, body_at, base_of, field_of}
use Rattle.cx_type_defs.specs.Questions.{Part as Asked, OfType, OfClass, most_levels}
use Rattle.cx_type_defs.specs.Sound.{Sound}
use Rattle.cx_state.specs.Objects.{Object}
use Rattle.cx_state.specs.Places.{element, base_row, kind_part, row_part, row_below, whole_kind, root_row}
use Rattle.cx_state.specs.Conditions.{listed, class_of, class_below, enclosing, outer_in}
use Rattle.cx_layout.specs.Forms.{Form, Forms, Leaf, Row, Class, End, nodes, nodes_in, cells, cells_in, stride, Part, further, whole, item, part_of, below_of}
use Rattle.cx_layout.specs.TypeForms.{each_form, is_union, base_parts, member_parts, body_form, kind_form, form_in, object_of, object_form}
use Rattle.cx_layout.specs.Places.{form_class, class_at, is_class, nearest}
use Rattle.cx_layout.proofs.Options.{some_inj, and_then_some, map_some}
use Rattle.cx_layout.proofs.Laying.{both_some}
use Rattle.cx_layout.proofs.Forming.{with_some}

-- the parts of a class

map_get : {A B : Type 0} (g : A → B) (xs : List A) (i : ℕ) → slice_get (map g xs) i ≡ option_map g (slice_get xs i)
map_get g [] i = refl
map_get g (x ∷ xs) zero = refl
map_get g (x ∷ xs) (suc i) = map_get g xs i

item_of : (below : Asked → Option Form) (u : Bool) (ps : List Asked) (fs : Forms) (i : ℕ) (p : Asked) → each_form below ps ≡ Some fs → slice_get ps i ≡ Some p → (q : Part) × (item u fs i ≡ Some q) × (below p ≡ Some q.form)
item_of below u [] fs i p e g = absurd (cc)
item_of below u (x ∷ ps) fs zero p e g =
    let m = both_some (below x) (each_form below ps) fs e in
    (whole m.0, ap (λ k. item u k 0) (sym m.4), ap below (sym (some_inj x p g)) ∙ m.2)
item_of below u (x ∷ ps) fs (suc i) p e g =
    let m = both_some (below x) (each_form below ps) fs e in
    let q = item_of below u ps m.1 i p m.3 g in
    (further (nodes m.0) (stride u m.0) q.0, ap (λ k. item u k (suc i)) (sym m.4) ∙ ap (option_map (further (nodes m.0) (stride u m.0))) q.1, q.2)

no_item : (below : Asked → Option Form) (u : Bool) (ps : List Asked) (fs : Forms) (i : ℕ) → each_form below ps ≡ Some fs → slice_get ps i ≡ None → item u fs i ≡ None
no_item below u [] fs i e g = ap (λ k. item u k i) (sym (some_inj End fs e))
no_item below u (x ∷ ps) fs zero e g = absurd (cc)
no_item below u (x ∷ ps) fs (suc i) e g =
    let m = both_some (below x) (each_form below ps) fs e in
    ap (λ k. item u k (suc i)) (sym m.4) ∙ ap (option_map (further (nodes m.0) (stride u m.0))) (no_item below u ps m.1 i m.3 g)

no_bases : (k : ClassKey) (xs : List ClassId) → (k ≡ key.Union → xs ≡ []) → (if is_union k then [] else map OfClass xs) ≡ map OfClass xs
no_bases key.Union xs h = ap (map OfClass) (sym (h refl))
no_bases key.Class xs h = refl
no_bases key.Struct xs h = refl

module _ (t : Tables) (sound : Sound t) where
  -- a type of that kind has that form, as far as some levels tell
  abbrev pub Has : TypeKind → Form → Type 0
  Has k g = (m : ℕ) × (kind_form t (form_in t m) k ≡ Some g)

  pub type_has : (l : ℕ) (id : TypeId) (g : Form) → form_in t l (OfType id) ≡ Some g → (r : TypeRow) × (slice_get t.rows id.0 ≡ Some r) × Has r.kind g
  unfolding form_in
  type_has zero id g e = absurd (cc)
  type_has (suc m) id g e = let a = and_then_some (λ (r : TypeRow). kind_form t (form_in t m) r.kind) (slice_get t.rows id.0) g e in (a.0, a.1, (m, a.2))

  class_has : (l : ℕ) (c : ClassId) (g : Form) → form_in t l (OfClass c) ≡ Some g → Has (kind.Class c) g
  unfolding form_in
  class_has zero c g e = absurd (cc)
  class_has (suc m) c g e = (m, e)

  abbrev pub Both : Option TypeRow → Option Part → Type 0
  Both None None = Unit {0}
  Both (Some r) (Some q) = Has r.kind q.form
  Both None (Some q) = ⊥
  Both (Some r) None = ⊥

  pub both_by : (x y : Option TypeRow) (a b : Option Part) → x ≡ y → a ≡ b → Both y b → Both x a
  both_by x y a b e k h = subst (λ x. Both x a) (sym e) (subst (Both y) (sym k) h)

  leaf_both : (konst : Bool) (k : TypeKind) (g : Form) (s : Step) → Leaf ≡ g → kind_part t konst k s ≡ None → Both (kind_part t konst k s) (part_of g s)
  leaf_both konst k g s e h = subst (λ (f : Form). Both (kind_part t konst k s) (part_of f s)) e (both_by (kind_part t konst k s) None (part_of Leaf s) None h refl tt)

  row_both : (konst : Bool) (of : TypeId) (n : ℕ) (g : Form) (s : Step) (r : TypeRow) → slice_get t.rows of.0 ≡ Some r → Has r.kind g → Both (kind_part t konst (kind.Array of n) s) (part_of (Row n g) s)
  row_both konst of n g (step.Base i) r e h = tt
  row_both konst of n g (step.Field i) r e h = tt
  row_both konst of n g (step.Elem i) r e h = go (nat_lt i n)
    where
      go : (b : Bool) → Both (if b then option_map (element konst) (slice_get t.rows of.0) else None) (if b then Some (record { node = 1; slot = i * cells g; form = g }) else None)
      go true = both_by (option_map (element konst) (slice_get t.rows of.0)) (Some (element konst r)) (Some (record { node = 1; slot = i * cells g; form = g })) (Some (record { node = 1; slot = i * cells g; form = g })) (ap (option_map (element konst)) e) refl h
      go false = tt

  module _ (l : ℕ) (c : ClassId) (d : ClassDecl) (b : ClassBody) (is_decl : slice_get t.classes c.0 ≡ Some d) (is_body : d.body ≡ Some b) (bs ms : Forms) (has_bases : each_form (form_in t l) (base_parts d.key b) ≡ Some bs) (has_members : each_form (form_in t l) (member_parts b) ≡ Some ms) where
    body_is : body_at t c ≡ Some b
    body_is = ap (option_and_then (λ (d : ClassDecl). d.body)) is_decl ∙ is_body

    bases_are : each_form (form_in t l) (map OfClass b.bases) ≡ Some bs
    bases_are = ap (each_form (form_in t l)) (sym (no_bases d.key b.bases ((sound.bodies_fit c d b is_decl is_body).alone))) ∙ has_bases

    base_both : (u : Bool) (i : ℕ) → Both (option_map base_row (base_of t c i)) (option_map (further 1 1) (item false bs i))
    base_both u i = go (slice_get b.bases i) refl
      where
        base_is : (o : Option ClassId) → slice_get b.bases i ≡ o → option_map base_row (base_of t c i) ≡ option_map base_row o
        base_is o z = ap (λ x. option_map base_row (option_and_then (λ (b : ClassBody). slice_get b.bases i) x)) body_is ∙ ap (option_map base_row) z

        go : (o : Option ClassId) → slice_get b.bases i ≡ o → Both (option_map base_row (base_of t c i)) (option_map (further 1 1) (item false bs i))
        go None z = both_by (option_map base_row (base_of t c i)) None (option_map (further 1 1) (item false bs i)) None (base_is None z) (ap (option_map (further 1 1)) (no_item (form_in t l) false (map OfClass b.bases) bs i bases_are (map_get OfClass b.bases i ∙ ap (option_map OfClass) z))) tt
        go (Some a) z =
            let q = item_of (form_in t l) false (map OfClass b.bases) bs i (OfClass a) bases_are (map_get OfClass b.bases i ∙ ap (option_map OfClass) z) in
            both_by (option_map base_row (base_of t c i)) (Some (base_row a)) (option_map (further 1 1) (item false bs i)) (Some (further 1 1 q.0)) (base_is (Some a) z) (ap (option_map (further 1 1)) q.1) (class_has l a q.0.form q.2)

    field_both : (u : Bool) (n o : ℕ) (i : ℕ) → Both (option_and_then (λ (f : Field). slice_get t.rows f.ty.0) (field_of t c i)) (option_map (further n o) (item u ms i))
    field_both u n o i = go (slice_get b.fields i) refl
      where
        field_is : (x : Option Field) → slice_get b.fields i ≡ x → option_and_then (λ (f : Field). slice_get t.rows f.ty.0) (field_of t c i) ≡ option_and_then (λ (f : Field). slice_get t.rows f.ty.0) x
        field_is x z = ap (λ x. option_and_then (λ (f : Field). slice_get t.rows f.ty.0) (option_and_then (λ (b : ClassBody). slice_get b.fields i) x)) body_is ∙ ap (option_and_then (λ (f : Field). slice_get t.rows f.ty.0)) z

        go : (x : Option Field) → slice_get b.fields i ≡ x → Both (option_and_then (λ (f : Field). slice_get t.rows f.ty.0) (field_of t c i)) (option_map (further n o) (item u ms i))
        go None z = both_by (option_and_then (λ (f : Field). slice_get t.rows f.ty.0) (field_of t c i)) None (option_map (further n o) (item u ms i)) None (field_is None z) (ap (option_map (further n o)) (no_item (form_in t l) u (member_parts b) ms i has_members (map_get (λ (f : Field). OfType f.ty) b.fields i ∙ ap (option_map (λ (f : Field). OfType f.ty)) z))) tt
        go (Some a) z =
            let q = item_of (form_in t l) u (member_parts b) ms i (OfType a.ty) has_members (map_get (λ (f : Field). OfType f.ty) b.fields i ∙ ap (option_map (λ (f : Field). OfType f.ty)) z) in
            let r = type_has l a.ty q.0.form q.2 in
            both_by (option_and_then (λ (f : Field). slice_get t.rows f.ty.0) (field_of t c i)) (Some r.0) (option_map (further n o) (item u ms i)) (Some (further n o q.0)) (field_is (Some a) z ∙ r.1) (ap (option_map (further n o)) q.1) r.2

    class_both : (konst u : Bool) (s : Step) → Both (kind_part t konst (kind.Class c) s) (part_of (Class c u bs ms) s)
    class_both konst u (step.Base i) = base_both u i
    class_both konst u (step.Field i) = field_both u (suc (nodes_in bs)) (suc (cells_in false bs)) i
    class_both konst u (step.Elem i) = tt

  part_both : (l : ℕ) (konst : Bool) (k : TypeKind) (g : Form) (s : Step) → kind_form t (form_in t l) k ≡ Some g → Both (kind_part t konst k s) (part_of g s)
  part_both l konst kind.Void g s e = absurd (cc)
  part_both l konst kind.Nullptr g s e = leaf_both konst kind.Nullptr g s (some_inj Leaf g e) refl
  part_both l konst (kind.Int x) g s e = leaf_both konst (kind.Int x) g s (some_inj Leaf g e) refl
  part_both l konst (kind.Enum x) g s e = leaf_both konst (kind.Enum x) g s (some_inj Leaf g e) refl
  part_both l konst (kind.Pointer x) g s e = leaf_both konst (kind.Pointer x) g s (some_inj Leaf g e) refl
  part_both l konst (kind.Reference x) g s e = leaf_both konst (kind.Reference x) g s (some_inj Leaf g e) refl
  part_both l konst (kind.Array of n) g s e =
      let a = map_some (Row n) (form_in t l (OfType of)) g e in
      let r = type_has l of a.0 a.1 in
      subst (λ (f : Form). Both (kind_part t konst (kind.Array of n) s) (part_of f s)) a.2 (row_both konst of n a.0 s r.0 r.1 r.2)
  part_both l konst (kind.Class c) g s e =
      let a = and_then_some (λ (d : ClassDecl). option_and_then (body_form (form_in t l) c d.key) d.body) (slice_get t.classes c.0) g e in
      let b = and_then_some (body_form (form_in t l) c a.0.key) a.0.body g a.2 in
      let w = with_some c (is_union a.0.key) (each_form (form_in t l) (base_parts a.0.key b.0)) (each_form (form_in t l) (member_parts b.0)) g b.2 in
      subst (λ (f : Form). Both (kind_part t konst (kind.Class c) s) (part_of f s)) w.4 (class_both l c a.0 b.0 a.1 b.1 w.0 w.1 w.2 w.3 konst (is_union a.0.key) s)

  class_here : (l : ℕ) (k : TypeKind) (g : Form) → kind_form t (form_in t l) k ≡ Some g → form_class g ≡ class_of k
  class_here l kind.Void g e = absurd (cc)
  class_here l kind.Nullptr g e = ap form_class (sym (some_inj Leaf g e))
  class_here l (kind.Int x) g e = ap form_class (sym (some_inj Leaf g e))
  class_here l (kind.Enum x) g e = ap form_class (sym (some_inj Leaf g e))
  class_here l (kind.Pointer x) g e = ap form_class (sym (some_inj Leaf g e))
  class_here l (kind.Reference x) g e = ap form_class (sym (some_inj Leaf g e))
  class_here l (kind.Array of n) g e = let a = map_some (Row n) (form_in t l (OfType of)) g e in ap form_class (sym a.2)
  class_here l (kind.Class c) g e =
      let a = and_then_some (λ (d : ClassDecl). option_and_then (body_form (form_in t l) c d.key) d.body) (slice_get t.classes c.0) g e in
      let b = and_then_some (body_form (form_in t l) c a.0.key) a.0.body g a.2 in
      let w = with_some c (is_union a.0.key) (each_form (form_in t l) (base_parts a.0.key b.0)) (each_form (form_in t l) (member_parts b.0)) g b.2 in
      ap form_class (sym w.4)

  abbrev class_end : Option Part → Option ClassId
  class_end o = option_and_then (λ (p : Part). form_class p.form) o

  pub both_further : (n s : ℕ) (x : Option TypeRow) (a : Option Part) → Both x a → Both x (option_map (further n s) a)
  both_further n s None None b = b
  both_further n s (Some r) (Some q) b = b
  both_further n s None (Some q) b = b
  both_further n s (Some r) None b = b

  pub below_both : (ss : List Step) (r : TypeRow) (g : Form) → Has r.kind g → Both (row_below t r ss) (below_of g ss)
  below_both [] r g h = h
  below_both (s ∷ ss) r g h = go (row_part t r s) (part_of g s) (part_both h.0 r.konst r.kind g s h.1) (λ q f k. below_both ss q f k)
    where
      go : (x : Option TypeRow) (a : Option Part) → Both x a → ((q : TypeRow) (f : Form) → Has q.kind f → Both (row_below t q ss) (below_of f ss)) → Both (option_and_then (λ (q : TypeRow). row_below t q ss) x) (option_and_then (λ (p : Part). option_map (further p.node p.slot) (below_of p.form ss)) a)
      go None None b ih = tt
      go (Some q) (Some p) b ih = both_further p.node p.slot (row_below t q ss) (below_of p.form ss) (ih q p.form b)
      go None (Some p) b ih = absurd b
      go (Some q) None b ih = absurd b

  class_both_ends : (x : Option TypeRow) (a : Option Part) → Both x a → class_end a ≡ option_and_then (λ (q : TypeRow). class_of q.kind) x
  class_both_ends None None b = refl
  class_both_ends (Some r) (Some q) b = class_here b.0 r.kind q.form b.1
  class_both_ends None (Some q) b = absurd b
  class_both_ends (Some r) None b = absurd b

  -- the whole object
  pub root_has : (o : Object) (f : Form) → object_form t o.ty o.count ≡ Some f → (r : TypeRow) × (root_row t o ≡ Some r) × Has r.kind f
  unfolding object_form
  root_has o f e =
      let a = map_some (object_of o.count) (form_in t most_levels (OfType o.ty)) f e in
      let r = type_has most_levels o.ty a.0 a.1 in
      (record { kind = whole_kind o.count o.ty r.0.kind; konst = o.konst || r.0.konst }, ap (option_map (λ (r : TypeRow). record { kind = whole_kind o.count o.ty r.kind; konst = o.konst || r.konst })) r.1, subst (Has (whole_kind o.count o.ty r.0.kind)) a.2 (counted o.count r.0.kind a.0 a.1 r.2))
    where
      counted : (n : Option ℕ) (k : TypeKind) (g : Form) → form_in t most_levels (OfType o.ty) ≡ Some g → Has k g → Has (whole_kind n o.ty k) (object_of n g)
      counted None k g z h = h
      counted (Some n) k g z h = (most_levels, ap (option_map (Row n)) z)

  pub classes_are : (o : Object) (f : Form) → object_form t o.ty o.count ≡ Some f → (ss : List Step) → class_at f ss ≡ class_below t o ss
  classes_are o f e ss =
      let r = root_has o f e in
      class_both_ends (row_below t r.0 ss) (below_of f ss) (below_both ss r.0 f r.2) ∙ ap (option_and_then (λ (r : TypeRow). option_and_then (λ (q : TypeRow). class_of q.kind) (row_below t r ss))) (sym r.1)

same_test : (c : ClassId) (o : Option ClassId) → is_class c o ≡ list_any (λ (d : ClassId). d.0 == c.0) (listed o)
same_test c None = refl
same_test c (Some d) = or_false (d.0 == c.0)
  where
    or_false : (b : Bool) → b ≡ (b || false)
    or_false true = refl
    or_false false = refl

find_same : {A : Type 0} (p q : A → Bool) (xs : List A) → ((x : A) → p x ≡ q x) → find p xs ≡ find q xs
find_same p q [] h = refl
find_same p q (x ∷ xs) h = ap (λ b. if b then Some x else find p xs) (h x) ∙ ap (λ o. if q x then Some x else o) (find_same p q xs h)

pub nearest_is_outer : (t : Tables) (o : Object) (f : Form) (c : ClassId) (ss : List Step) → Sound t → object_form t o.ty o.count ≡ Some f → nearest f c ss ≡ outer_in t o c ss
nearest_is_outer t o f c ss sound e =
    find_same (λ us. is_class c (class_at f us)) (λ us. list_any (λ (d : ClassId). d.0 == c.0) (listed (class_below t o us))) (reverse (enclosing ss))
    (λ us. ap (is_class c) (classes_are t sound o f e us) ∙ same_test c (class_below t o us))
