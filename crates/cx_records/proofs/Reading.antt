-- What is read where no rule is broken.
use Rattle.std.proofs.Common.{◌≡◌, ℕ, zero, suc, ◌+◌, Bool, true, false, true≢false, ◌&&◌, not, List, [], ◌∷◌, Option, None, Some, inl, inr, refl, sym, ap, subst, ◌∙◌, slice_get, if◌then◌else◌}
use Rattle.std.specs.Prelude.{option_map, option_and_then, unwrap_or}
use Rattle.std.specs.List.{find}
use Rattle.cx_base.specs.declared.rule.Rule.{Rule}
use Rattle.cx_base.specs.declared.rule.Rule.TheVariants as rule
use Rattle.cx_type_defs.proofs.Lists.{some_inj, option_map-some}
use Rattle.cx_type_defs.specs.declared.kind.TypeRow.{TypeRow}
use Rattle.cx_type_defs.specs.declared.kind.TypeKind.{TypeKind}
use Rattle.cx_type_defs.specs.declared.kind.TypeKind.TheVariants as kind
use Rattle.cx_type_defs.specs.declared.decl.ClassDecl.{ClassDecl}
use Rattle.cx_type_defs.specs.Tables.{Tables}
use Rattle.cx_state.specs.declared.kind.Scalar.{Scalar}
use Rattle.cx_state.specs.declared.kind.Scalar.TheVariants as scalar
use Rattle.cx_state.specs.Objects as tree
use Rattle.cx_state.specs.Objects.{Path, Tree, Trees, Object, Objects, below, at}
use Rattle.cx_state.specs.Places.{row_below, row_of, spot_row, spot_of}
use Rattle.cx_state.specs.Conditions as on
use Rattle.cx_state.specs.Pointers.{is_union_key, is_union_kind}
use Rattle.cx_state.specs.Steps as steps
use Rattle.cx_state.specs.Forms.{Knows, HoldsValue}
use Rattle.cx_state.proofs.Written.{spot-below}
use Rattle.cx_state.proofs.Reached.{touched-there}
use Rattle.cx_store.specs.Stores.{IsOf, IsScalarAt, IsUnionAt, is_class_kind, seen}
use Rattle.cx_shapes.specs.Forms.{Form, Forms, Leaf, Row, Class, Union, End, More, Part, further, item, size, steps_at}
use Rattle.cx_shapes.specs.Contents.{Cells, tree_of, trees_of, union_tree, active_tree}
use Rattle.cx_shapes.specs.Kinds.{IsForm, AreForms, base_kinds, field_kinds}
use Rattle.cx_shapes.proofs.Typing.{has_below, body_known}
use Rattle.cx_records.specs.declared.place.Place.{Place}
use Rattle.cx_records.specs.declared.place.End.TheVariants as end
use Rattle.cx_records.specs.declared.record.Record.{Record}
use Rattle.cx_records.specs.declared.check.Condition.{Condition}
use Rattle.cx_records.specs.Records.{steps_of, marked, is_past, cells_of, path_in, record_form, forms_in, object_in, objects_of}
use Rattle.cx_records.specs.Fits.{Fits}
use Rattle.cx_records.specs.Checks.{cells_in, StandsAt, IsCondition, if_part, held_member, is_nothing}
use Rattle.cx_records.proofs.Placed.{placed}
use Rattle.cx_records.proofs.Rules.{here, tree_here, the_object, end_cases}

-- a search that finds nothing passes each test
pub not_found : {A : Type 0} (f : A → Bool) (x : A) (xs : List A) → find f (x ∷ xs) ≡ None → (f x ≡ false) × (find f xs ≡ None)
not_found f x xs e = go (f x) e
  where
    go : (b : Bool) → (if b then Some x else find f xs) ≡ None → (b ≡ false) × (find f xs ≡ None)
    go true e = absurd (cc)
    go false e = (refl, e)

-- an access that breaks no rule isn't past an end
pub not_past : (t : Tables) (rs : List Record) (p : Place) (a : on.Access) (rest : List Rule) (r : Record) → slice_get rs p.object ≡ Some r → on.order a ≡ rule.Dangling ∷ rule.PastEnd ∷ rest
    → on.broken t (objects_of rs) (path_in (forms_in rs) p) a ≡ None → p.end ≡ end.At
not_past t rs p a rest r e o n =
    let q = path_in (forms_in rs) p in
    let w = object_in (forms_in rs) r in
    let f : find (on.holds t w q a) (rule.Dangling ∷ rule.PastEnd ∷ rest) ≡ None =
    sym (ap (option_and_then (λ (o : Object). find (on.holds t o q a) (on.order a))) (the_object rs p r e) ∙ ap (find (on.holds t w q a)) o) ∙ n in
    let g = not_found (on.holds t w q a) rule.Dangling (rule.PastEnd ∷ rest) f in
    let h = not_found (on.holds t w q a) rule.PastEnd rest g.1 in
    elim (end_cases p.end) as (λ _. p.end ≡ end.At) [ inl x ↦ x | inr x ↦ absurd (true≢false (sym x ∙ h.0)) ]

-- the form at a known place is that of the type there
pub record Typed (t : Tables) (rs : List Record) (p : Place) (g : Form) : Type 0 where
  pub row : TypeRow
  pub is_row : row_of t (objects_of rs) (path_in (forms_in rs) p) ≡ Some row
  pub form : IsForm t g row.kind

pub typed : (t : Tables) (rs : List Record) (live : ℕ) (p : Place) (g : Form) (there dead : Bool) → Fits t rs live → Knows t (objects_of rs) (path_in (forms_in rs) p) → p.end ≡ end.At → StandsAt rs p g there dead → Typed t rs p g
typed t rs live p g there dead f k a s =
    let w = placed t rs p k in
    let x = s.walked in
    let r : w.rec ≡ s.rec = some_inj w.rec s.rec (sym w.is_rec ∙ s.is_rec) in
    let kept = f.kept p.object w.rec w.is_rec in
    let root : kept.row ≡ w.root = some_inj kept.row w.root (sym kept.is_row ∙ w.is_root) in
    let ss : w.steps ≡ x.steps = some_inj w.steps x.steps (sym w.are_steps ∙ (ap (λ (z : Record). steps_of p (record_form z)) r ∙ (ap (λ n. option_and_then (marked (record_form s.rec) n) (steps_at (record_form s.rec) p.part)) a ∙ ap (option_and_then (marked (record_form s.rec) end.At)) x.are_steps))) in
    let row : row_below t w.root x.steps ≡ Some w.row =
    sym (spot-below t x.steps w.root) ∙ ap (λ b. spot_row t b (spot_of b x.steps) w.root) (sym (ap is_past a)) ∙ ap (λ z. spot_row t (is_past p.end) (spot_of (is_past p.end) z) w.root) (sym ss) ∙ w.is_row in
    let h = has_below t (record_form s.rec) w.root (subst (λ (z : TypeRow). IsForm t (record_form s.rec) z.kind) root (subst (λ (z : Record). IsForm t (record_form z) kept.row.kind) r kept.form)) x.steps w.row row in
    let e : h.0 ≡ (p.part, g) = some_inj h.0 (p.part, g) (sym h.1 ∙ x.leads) in
    record { row = w.row; is_row = w.at_place; form = subst (λ (z : Part). IsForm t z.1 w.row.kind) e h.2 }

-- where an access that touches breaks no rule, what it touches is there
pub record Touched (rs : List Record) (p : Place) (r : Record) (g : Form) (there : Bool) : Type 0 where
  pub not_past : p.end ≡ end.At
  pub is_there : there ≡ true
  pub is_tree : at (objects_of rs) (path_in (forms_in rs) p) ≡ Some (tree_here rs p r g)

pub there_if : {A : Type 0} (b : Bool) (x y : A) → (if b then Some x else None) ≡ Some y → b ≡ true
there_if true x y e = refl
there_if false x y e = absurd (cc)

pub touched : (t : Tables) (rs : List Record) (live : ℕ) (p : Place) (g : Form) (there dead : Bool) (a : on.Access) (rest : List Rule) → Fits t rs live → Knows t (objects_of rs) (path_in (forms_in rs) p) → (s : StandsAt rs p g there dead)
    → on.is_touching a ≡ true → on.order a ≡ rule.Dangling ∷ rule.PastEnd ∷ rest → on.broken t (objects_of rs) (path_in (forms_in rs) p) a ≡ None → Touched rs p s.rec g there
touched t rs live p g there dead a rest f k s touching o n =
    let e : p.end ≡ end.At = not_past t rs p a rest s.rec s.is_rec o n in
    let h = here rs p g there dead e s in
    let w = placed t rs p k in
    let x = touched-there t (objects_of rs) (path_in (forms_in rs) p) w.row a f.fit w.at_place touching n in
    let q : at (objects_of rs) (path_in (forms_in rs) p) ≡ (if there then Some (tree_here rs p s.rec g) else None) = ap (option_and_then (λ (o : Object). below o.tree (path_in (forms_in rs) p).steps)) h.is_object ∙ h.stands in
    let b : there ≡ true = there_if there (tree_here rs p s.rec g) x.0 (sym q ∙ x.1) in
    record { not_past = e; is_there = b; is_tree = q ∙ ap (λ z. if z then Some (tree_here rs p s.rec g) else None) b }

-- forms by kinds

pub leaf_form : (t : Tables) (g : Form) (k : TypeKind) → IsForm t g k → HoldsValue k → g ≡ Leaf
leaf_form t Leaf k h s = refl
leaf_form t (Row n f) (kind.Array of m) h s = absurd s
leaf_form t (Class bs ms) (kind.Class c) h s = absurd s
leaf_form t (Union ms) (kind.Class c) h s = absurd s
leaf_form t g k h s = absurd (first_of (assumption, cc))

pub of_row : (P : TypeRow → Type 0) (o : Option TypeRow) (r : TypeRow) → IsOf P o → o ≡ Some r → P r
of_row P o r h e = subst (IsOf P) e h

pub scalar_leaf : (t : Tables) (rs : List Record) (p : Place) (g : Form) → Typed t rs p g → IsScalarAt t (objects_of rs) (path_in (forms_in rs) p) → g ≡ Leaf
scalar_leaf t rs p g y s = leaf_form t g y.row.kind y.form (of_row (λ r. HoldsValue r.kind) (row_of t (objects_of rs) (path_in (forms_in rs) p)) y.row s y.is_row)

-- a union, and its active member

pub false_true : (b : Bool) → b ≡ false → b ≡ true → ⊥
false_true b e f = true≢false (sym f ∙ e)

pub union_form : (t : Tables) (g : Form) (k : TypeKind) → IsForm t g k → is_union_kind t k ≡ true → (ms : Forms) × (g ≡ Union ms)
union_form t (Union ms) k h u = (ms, refl)
union_form t (Class bs ms) (kind.Class c) h u =
    let w = body_known (λ k b. (is_union_key k ≡ false) × AreForms t bs (base_kinds b) × AreForms t ms (field_kinds t b)) (slice_get t.classes c.0) h in
    let x : is_union_key w.0.key ≡ true = sym (ap (λ o. unwrap_or (option_map (λ (d : ClassDecl). is_union_key d.key) o) false) w.2) ∙ u in
    absurd (false_true (is_union_key w.0.key) w.4.0 x)
union_form t Leaf (kind.Class c) h u = absurd h
union_form t (Row n f) (kind.Array of m) h u = absurd (cc)
union_form t g k h u = absurd (first_of (assumption, cc))

pub class_form : (t : Tables) (g : Form) (k : TypeKind) → IsForm t g k → is_class_kind t k ≡ true → (bs : Forms) × (ms : Forms) × (g ≡ Class bs ms)
class_form t (Class bs ms) k h u = (bs, ms, refl)
class_form t (Union ms) (kind.Class c) h u =
    let w = body_known (λ k b. (is_union_key k ≡ true) × (b.bases ≡ []) × AreForms t ms (field_kinds t b)) (slice_get t.classes c.0) h in
    let x : not (is_union_key w.0.key) ≡ true = sym (ap (λ o. unwrap_or (option_map (λ (d : ClassDecl). not (is_union_key d.key)) o) false) w.2) ∙ u in
    absurd (false_true (not (is_union_key w.0.key)) (ap not w.4.0) x)
class_form t Leaf (kind.Class c) h u = absurd h
class_form t (Row n f) (kind.Array of m) h u = absurd (cc)
class_form t g k h u = absurd (first_of (assumption, cc))

pub no_tree : (fs : Forms) (c : Cells) (b i : ℕ) → item fs i ≡ None → tree.tree_at (trees_of fs c b) i ≡ None
no_tree End c b i e = refl
no_tree (More f fs) c b zero e = absurd (cc)
no_tree (More f fs) c b (suc i) e = no_tree fs c (b + size f) i (none_map (further (size f)) (item fs i) e)
  where
    none_map : {A B : Type 0} (f : A → B) (o : Option A) → option_map f o ≡ None → o ≡ None
    none_map f None e = refl
    none_map f (Some a) e = absurd (cc)

pub a_tree : (fs : Forms) (c : Cells) (b i : ℕ) (p : Part) → item fs i ≡ Some p → (x : Tree) × (tree.tree_at (trees_of fs c b) i ≡ Some x)
a_tree End c b i p e = absurd (cc)
a_tree (More f fs) c b zero p e = (tree_of f c b, refl)
a_tree (More f fs) c b (suc i) p e = let m = option_map-some (further (size f)) (item fs i) p e in a_tree fs c (b + size f) i m.0 m.1

pub member_is : (ms : Forms) (c : Cells) (b : ℕ) → steps.member_of (Some (tree_of (Union ms) c b)) ≡ held_member (Union ms) (c b).member
member_is ms c b = go (c b).member
  where
    one : (m : ℕ) (o : Option Part) → item ms m ≡ o → steps.member_of (Some (active_tree m (tree.tree_at (trees_of ms c (b + 1)) m))) ≡ if_part m (option_map (further 1) o)
    one m None e = ap (λ x. steps.member_of (Some (active_tree m x))) (no_tree ms c (b + 1) m e)
    one m (Some p) e = let x = a_tree ms c (b + 1) m p e in ap (λ x. steps.member_of (Some (active_tree m x))) x.1

    go : (o : Option ℕ) → steps.member_of (Some (union_tree o (trees_of ms c (b + 1)))) ≡ held_member (Union ms) o
    go None = refl
    go (Some m) = one m (item ms m) refl

-- what load and active read

pub value_is : (t : Tables) (rs : List Record) (live : ℕ) (p : Place) (c : Condition) → Fits t rs live → Knows t (objects_of rs) (path_in (forms_in rs) p) → IsScalarAt t (objects_of rs) (path_in (forms_in rs) p) → (k : IsCondition rs p c)
    → on.broken t (objects_of rs) (path_in (forms_in rs) p) on.Load ≡ None → steps.scalar_of (at (objects_of rs) (path_in (forms_in rs) p)) ≡ (cells_in rs k.stands.rec p.part).value
value_is t rs live p c f k s i n =
    let x = touched t rs live p i.form c.there i.dead on.Load (rule.NotUsable ∷ rule.InactiveMember ∷ rule.OutOfLifetime ∷ rule.Indeterminate ∷ []) f k i.stands refl refl n in
    let l = scalar_leaf t rs p i.form (typed t rs live p i.form c.there i.dead f k x.not_past i.stands) s in
    ap steps.scalar_of x.is_tree ∙ ap (λ g. steps.scalar_of (Some (tree_of g (cells_in rs i.stands.rec) p.part))) l

pub active_is : (t : Tables) (rs : List Record) (live : ℕ) (p : Place) (g : Form) (there dead : Bool) (o : Option ℕ) → Fits t rs live → Knows t (objects_of rs) (path_in (forms_in rs) p) → IsUnionAt t (objects_of rs) (path_in (forms_in rs) p) → (s : StandsAt rs p g there dead)
    → o ≡ held_member g (cells_in rs s.rec p.part).member → on.broken t (objects_of rs) (path_in (forms_in rs) p) on.Which ≡ None → o ≡ steps.member_of (at (objects_of rs) (path_in (forms_in rs) p))
active_is t rs live p g there dead o f k u s e n =
    let x = touched t rs live p g there dead on.Which (rule.NotUsable ∷ rule.InactiveMember ∷ rule.OutOfLifetime ∷ []) f k s refl refl n in
    let y = typed t rs live p g there dead f k x.not_past s in
    let m = union_form t g y.row.kind y.form (of_row (λ r. is_union_kind t r.kind ≡ true) (row_of t (objects_of rs) (path_in (forms_in rs) p)) y.row u y.is_row) in
    e ∙ ap (λ h. held_member h (cells_in rs s.rec p.part).member) m.1 ∙ sym (member_is m.0 (cells_in rs s.rec) p.part) ∙ ap (λ h. steps.member_of (Some (tree_of h (cells_in rs s.rec) p.part))) (sym m.1) ∙ ap steps.member_of (sym x.is_tree)

-- a scalar without value
pub nothing_is : (rs : List Record) (p : Place) (r : Record) (there b : Bool) (g : Form) → g ≡ Leaf → b ≡ on.is_indeterminate (tree.Leaf (cells_in rs r p.part).value) → (there && b) ≡ (there && on.is_indeterminate (tree_here rs p r g))
nothing_is rs p r there b g l e = ap (λ z. there && z) (e ∙ ap (λ h. on.is_indeterminate (tree_of h (cells_in rs r) p.part)) (sym l))

pub seen_nothing : {P : Type 0} (path : P → Path) (v : Scalar P) → is_nothing v ≡ on.is_indeterminate (tree.Leaf (seen path v))
seen_nothing path (scalar.Int i) = refl
seen_nothing path scalar.Null = refl
seen_nothing path (scalar.Place p) = refl
seen_nothing path scalar.Indeterminate = refl

pub held_is : (rs : List Record) (p : Place) (r q : Record) (m : Option ℕ) → slice_get rs p.object ≡ Some r → slice_get rs p.object ≡ Some q → ((fs : List Form) → m ≡ (cells_of fs r.contents p.part).member) → m ≡ (cells_in rs q p.part).member
held_is rs p r q m a b h = h (forms_in rs) ∙ ap (λ (r : Record). (cells_in rs r p.part).member) (some_inj r q (sym a ∙ b))

pub loaded_is : (rs : List Record) (p : Place) (c : Condition) (k : IsCondition rs p c) (r : Record) → slice_get rs p.object ≡ Some r → (v : Scalar Place) → ((fs : List Form) → seen (path_in fs) v ≡ (cells_of fs r.contents p.part).value)
    → seen (path_in (forms_in rs)) v ≡ (cells_in rs k.stands.rec p.part).value
loaded_is rs p c k r e v h = h (forms_in rs) ∙ ap (λ (r : Record). (cells_in rs r p.part).value) (some_inj r k.stands.rec (sym e ∙ k.stands.is_rec))

pub load_nothing : (t : Tables) (rs : List Record) (live : ℕ) (p : Place) (c : Condition) (k : IsCondition rs p c) → Fits t rs live → Knows t (objects_of rs) (path_in (forms_in rs) p) → IsScalarAt t (objects_of rs) (path_in (forms_in rs) p)
    → (r : Record) → slice_get rs p.object ≡ Some r → (v : Scalar Place) → ((fs : List Form) → seen (path_in fs) v ≡ (cells_of fs r.contents p.part).value) → (b : Bool) → b ≡ is_nothing v → (x : Bool) → x ≡ (c.there && b)
    → p.end ≡ end.At → x ≡ (c.there && on.is_indeterminate (tree_here rs p k.stands.rec k.form))
load_nothing t rs live p c k f n s r e v h b z x y a =
    let w = typed t rs live p k.form c.there k.dead f n a k.stands in
    let l = scalar_leaf t rs p k.form w s in
    y ∙ nothing_is rs p k.stands.rec c.there b k.form l (z ∙ seen_nothing (path_in (forms_in rs)) v ∙ ap (λ w. on.is_indeterminate (tree.Leaf w)) (loaded_is rs p c k r e v h))
