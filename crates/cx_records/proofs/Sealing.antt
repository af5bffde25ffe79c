-- Const parts that hold something.
use Rattle.std.proofs.Common.{◌≡◌, ℕ, zero, suc, ◌+◌, ◌-◌, ◌≤◌, Bool, true, false, ◌&&◌, ◌||◌, not, List, ◌∷◌, Option, None, Some, refl, sym, ap, ◌∙◌, slice_get, arith, if◌then◌else◌}
use Rattle.std.specs.Prelude.{option_map, option_and_then, unwrap_or}
use Rattle.cx_type_defs.proofs.Lists.{some_inj, option_map-some}
use Rattle.cx_type_defs.specs.declared.ids.Step.{Step}
use Rattle.cx_type_defs.specs.declared.kind.TypeRow.{TypeRow}
use Rattle.cx_type_defs.specs.Tables.{Tables}
use Rattle.cx_state.specs.declared.kind.Phase.{Phase}
use Rattle.cx_state.specs.declared.kind.Phase.TheVariants as phase
use Rattle.cx_state.specs.declared.kind.Scalar.{Scalar}
use Rattle.cx_state.specs.declared.kind.Scalar.TheVariants as scalar
use Rattle.cx_state.specs.Objects as tree
use Rattle.cx_state.specs.Objects.{Path, Tree, Trees, Object}
use Rattle.cx_state.specs.Places.{row_part, root_row}
use Rattle.cx_state.specs.Conditions as on
use Rattle.cx_shapes.specs.Forms.{Form, Leaf, Row, Class, Union, Part, part_of, sizes, Way, way, Leads, steps_at}
use Rattle.cx_shapes.specs.Contents.{Cells, tree_of, trees_of, union_tree, active_tree, is_open}
use Rattle.cx_shapes.specs.Kinds.{IsForm}
use Rattle.cx_shapes.proofs.Numbering.{way_leads, steps_way}
use Rattle.cx_shapes.proofs.Parting.{tree_part}
use Rattle.cx_shapes.proofs.Typing.{part_has}
use Rattle.std.specs.List.{list_any}
use Rattle.cx_base.specs.declared.rule.Rule.TheVariants as rule
use Rattle.cx_type_defs.specs.declared.ids.Step.TheVariants as step
use Rattle.cx_type_defs.specs.declared.ids.ClassId.{ClassId}
use Rattle.cx_type_defs.specs.declared.ids.TypeId.{TypeId}
use Rattle.cx_type_defs.specs.declared.kind.TypeKind.TheVariants as kind
use Rattle.cx_type_defs.specs.declared.decl.Field.{Field}
use Rattle.cx_type_defs.specs.Tables.{field_of}
use Rattle.cx_state.specs.Places.{kind_part}
use Rattle.cx_records.specs.declared.place.Place.{Place}
use Rattle.cx_records.specs.declared.place.End.TheVariants as end
use Rattle.cx_records.specs.declared.record.Record.{Record}
use Rattle.cx_records.specs.declared.check.Condition.{Condition}
use Rattle.cx_records.specs.Records.{path_in, cells_of, record_form, forms_in, object_in}
use Rattle.cx_records.proofs.Rules.{path_is}
use Rattle.cx_records.specs.Checks.{is_nothing, IsCondition}
use Rattle.cx_records.specs.Seals.{is_alive_phase, holds_fast}

pub alive_class : (p : Phase) (bs ms : Trees) → on.is_alive (tree.Class p bs ms) ≡ is_alive_phase p
alive_class phase.Unborn bs ms = refl
alive_class phase.Bases bs ms = refl
alive_class phase.Body bs ms = refl
alive_class phase.Alive bs ms = refl
alive_class phase.Ending bs ms = refl
alive_class phase.EndingBases bs ms = refl
alive_class phase.Ended bs ms = refl

pub leaf_value : (v : Scalar Path) → on.is_indeterminate (tree.Leaf v) ≡ is_nothing v
leaf_value (scalar.Int i) = refl
leaf_value scalar.Null = refl
leaf_value (scalar.Place p) = refl
leaf_value scalar.Indeterminate = refl

pub or_false : (b : Bool) → (b || false) ≡ b
or_false true = refl
or_false false = refl

pub union_fast : (o : Option ℕ) (xs : Trees) → (on.is_alive (union_tree o xs) || on.is_leaf (union_tree o xs) && not (on.is_indeterminate (union_tree o xs))) ≡ false
union_fast None xs = refl
union_fast (Some m) xs = go (tree.tree_at xs m)
  where
    go : (x : Option Tree) → (on.is_alive (active_tree m x) || on.is_leaf (active_tree m x) && not (on.is_indeterminate (active_tree m x))) ≡ false
    go None = refl
    go (Some x) = refl

pub fast_is : (f : Form) (c : Cells) (b : ℕ) → holds_fast f (c b) ≡ (on.is_alive (tree_of f c b) || on.is_leaf (tree_of f c b) && not (on.is_indeterminate (tree_of f c b)))
fast_is Leaf c b = ap not (sym (leaf_value (c b).value))
fast_is (Row n f) c b = refl
fast_is (Class bs ms) c b = sym (alive_class (c b).phase (trees_of bs c (b + 1)) (trees_of ms c (b + suc (sizes bs)))) ∙ sym (or_false (on.is_alive (tree.Class (c b).phase (trees_of bs c (b + 1)) (trees_of ms c (b + suc (sizes bs))))))
fast_is (Union ms) c b = sym (union_fast (c b).member (trees_of ms c (b + 1)))

-- a step is there for the type where it is for the shape
pub row_there : (t : Tables) (f : Form) (r : TypeRow) (j : ℕ) (w : Way) → IsForm t f r.kind → way f j ≡ Some w → (q : TypeRow) × (row_part t r w.0 ≡ Some q) × IsForm t w.2 q.kind
row_there t f r j w h e = let l : Leads f j w = way_leads f j w e in part_has t f r.konst r.kind h w.0 (w.1, w.2) l.is_part

pub sealed_on : (t : Tables) (f : Form) (r q : TypeRow) (c : Cells) (b : ℕ) (s : Step) (ss : List Step) (p : Part) → part_of f s ≡ Some p → row_part t r s ≡ Some q
    → on.sealed t r (tree_of f c b) (s ∷ ss) ≡ (on.is_sealed r (tree_of f c b) || is_open f (c b) s && on.sealed t q (tree_of p.1 c (b + p.0)) ss)
sealed_on t f r q c b s ss p e h =
    ap (λ o. on.is_sealed r (tree_of f c b) || unwrap_or (option_and_then (λ (q : TypeRow). option_map (λ y. on.sealed t q y ss) (tree.part (tree_of f c b) s)) o) false) h
    ∙ ap (λ o. on.is_sealed r (tree_of f c b) || unwrap_or (option_map (λ y. on.sealed t q y ss) o) false) (tree_part f c b s p e)
    ∙ ap (λ x. on.is_sealed r (tree_of f c b) || x) (go (is_open f (c b) s))
  where
    go : (a : Bool) → unwrap_or (option_map (λ y. on.sealed t q y ss) (if a then Some (tree_of p.1 c (b + p.0)) else None)) false ≡ (a && on.sealed t q (tree_of p.1 c (b + p.0)) ss)
    go true = refl
    go false = refl

pub sealed_more : (t : Tables) (f : Form) (r q : TypeRow) (c : Cells) (b rest : ℕ) (w : Way) (ss : List Step) (here there inner u v : Bool) → 1 ≤ rest → way f (rest - 1) ≡ Some w → row_part t r w.0 ≡ Some q → steps_at f rest ≡ Some ss
    → here ≡ on.is_sealed r (tree_of f c b) → there ≡ is_open f (c b) w.0 → ((us : List Step) → steps_at w.2 (rest - w.1) ≡ Some us → inner ≡ on.sealed t q (tree_of w.2 c (b + w.1)) us)
    → u ≡ (there && inner) → v ≡ (here || u) → v ≡ on.sealed t r (tree_of f c b) ss
sealed_more t f r q c b zero w ss here there inner u v l e h s x y z m n = absurd (omega arith)
sealed_more t f r q c b (suc j) w ss here there inner u v l e h s x y z m n =
    let k : suc j - 1 ≡ j = omega arith in
    let wy : way f j ≡ Some w = ap (way f) (sym k) ∙ e in
    let le : Leads f j w = way_leads f j w wy in
    let us = option_map-some (λ us. w.0 ∷ us) (steps_at w.2 (suc j - w.1)) ss (sym (steps_way f j w wy) ∙ s) in
    n ∙ ap (λ d. here || d) (m ∙ ap (λ d. d && inner) y ∙ ap (λ d. is_open f (c b) w.0 && d) (z us.0 us.1)) ∙ ap (λ d. d || is_open f (c b) w.0 && on.sealed t q (tree_of w.2 c (b + w.1)) us.0) x
    ∙ sym (sealed_on t f r q c b w.0 us.0 (w.1, w.2) le.is_part h) ∙ ap (on.sealed t r (tree_of f c b)) us.2

pub field_row_is : (t : Tables) (r q : TypeRow) (s : Step) (c : ClassId) (i : ℕ) (ty : TypeId) → r.kind ≡ kind.Class c → s ≡ step.Field i → option_map (λ (f : Field). f.ty) (field_of t c i) ≡ Some ty → slice_get t.rows ty.0 ≡ Some q → row_part t r s ≡ Some q
field_row_is t r q s c i ty e h f g =
    let m = option_map-some (λ (f : Field). f.ty) (field_of t c i) ty f in
    ap (λ k. kind_part t r.konst k s) e ∙ ap (kind_part t r.konst (kind.Class c)) h ∙ ap (option_and_then (λ (f : Field). slice_get t.rows f.ty.0)) m.1 ∙ ap (λ (y : TypeId). slice_get t.rows y.0) m.2 ∙ g

pub one_listed : (t : Tables) (o : Object) (r : TypeRow) (ss : List Step) → root_row t o ≡ Some r → list_any (λ (r : TypeRow). on.sealed t r o.tree ss) (on.listed (root_row t o)) ≡ on.sealed t r o.tree ss
one_listed t o r ss e = ap (λ x. list_any (λ (r : TypeRow). on.sealed t r o.tree ss) (on.listed x)) e ∙ or_false (on.sealed t r o.tree ss)

-- what is found of a place's record
pub const_write : (t : Tables) (rs : List Record) (p : Place) (c : Condition) (k : IsCondition rs p c) (r : Record) → slice_get rs p.object ≡ Some r → (row : TypeRow) → root_row t (object_in (forms_in rs) r) ≡ Some row
    → (x : Bool) → ((fs : List Form) (ss : List Step) → steps_at (record_form r) p.part ≡ Some ss → x ≡ on.sealed t row (tree_of (record_form r) (cells_of fs r.contents) 0) ss)
    → p.end ≡ end.At → x ≡ on.holds t (object_in (forms_in rs) k.stands.rec) (path_in (forms_in rs) p) on.Store rule.ConstWrite
const_write t rs p c k r e row root x h a =
    let st = k.stands in
    let w = st.walked in
    let same : r ≡ st.rec = some_inj r st.rec (sym e ∙ st.is_rec) in
    let s : steps_at (record_form r) p.part ≡ Some w.steps = ap (λ (z : Record). steps_at (record_form z) p.part) same ∙ w.are_steps in
    let o = object_in (forms_in rs) r in
    h (forms_in rs) w.steps s
    ∙ sym (one_listed t o row w.steps root)
    ∙ ap (λ (z : Record). list_any (λ (r : TypeRow). on.sealed t r (object_in (forms_in rs) z).tree w.steps) (on.listed (root_row t (object_in (forms_in rs) z)))) same
    ∙ sym (ap (λ (q : Path). list_any (λ (r : TypeRow). on.sealed t r (object_in (forms_in rs) st.rec).tree q.steps) (on.listed (root_row t (object_in (forms_in rs) st.rec)))) (path_is rs p st.rec w.steps st.is_rec a w.are_steps))
