-- The members of a union: each has the form of its type, and a new tree of the one is a new tree of the other.
use Rattle.std.proofs.Common.{◌≡◌, ℕ, zero, suc, ◌+◌, ◌≤◌, Bool, true, false, List, [], ◌∷◌, map, Option, None, Some, refl, sym, ap, subst, ◌∙◌, slice_get, arith}
use Rattle.std.specs.Prelude.{option_map, option_and_then, unwrap_or, is_some, IsSome}
use Rattle.cx_type_defs.specs.declared.ids.ClassId.{ClassId}
use Rattle.cx_type_defs.specs.declared.ids.TypeId.{TypeId}
use Rattle.cx_type_defs.specs.declared.ids.Step.TheVariants as step
use Rattle.cx_type_defs.specs.declared.kind.TypeRow.{TypeRow}
use Rattle.cx_type_defs.specs.declared.kind.TypeKind.{TypeKind}
use Rattle.cx_type_defs.specs.declared.kind.TypeKind.TheVariants as kind
use Rattle.cx_type_defs.specs.declared.decl.Field.{Field}
use Rattle.cx_type_defs.specs.declared.decl.ClassDecl.{ClassDecl}
use Rattle.cx_type_defs.specs.declared.decl.ClassBody.{ClassBody}
use Rattle.cx_type_defs.specs.Tables.{Tables, body_at, field_of}
use Rattle.cx_type_defs.specs.Questions.{Part, OfType, OfClass, asked, extent_of, most_levels, is_complete}
use Rattle.cx_type_defs.specs.Sound.{Sound}
use Rattle.cx_state.specs.declared.kind.Phase.{Phase}
use Rattle.cx_state.specs.Objects.{Tree}
use Rattle.cx_state.specs.Steps.{blank, new_tree, member_tree}
use Rattle.cx_state.specs.Conditions.{class_of}
use Rattle.cx_layout.specs.Forms as forms
use Rattle.cx_layout.specs.Forms.{Form, Forms, Leaf, Row, Class, End, More, nodes, stride, whole, further, item}
use Rattle.cx_layout.specs.TypeForms.{both, each_form, is_union, base_parts, member_parts, with_parts, body_form, class_form, kind_form, part_form, form_in}
use Rattle.cx_layout.proofs.Options.{some_inj, and_then_some, map_some}
use Rattle.cx_layout.proofs.Laying.{both_some}
use Rattle.cx_layout.proofs.Forming.{with_some}
use Rattle.cx_layout.proofs.Complete.{form_told}
use Rattle.cx_layout.proofs.Agreeing.{Has}
use Rattle.cx_slots.specs.Fresh.{fresh}
use Rattle.cx_slots.proofs.NewTrees.{type_new}
use Rattle.cx_blocks.proofs.KindForms.{class_has}

-- a form that is found at some level is found at the next

module _ (t : Tables) (f g : Part → Option Form) (keep : (p : Part) (x : Form) → f p ≡ Some x → g p ≡ Some x) where
  each_keep : (ps : List Part) (fs : Forms) → each_form f ps ≡ Some fs → each_form g ps ≡ Some fs
  each_keep [] fs e = e
  each_keep (p ∷ ps) fs e =
      let a = both_some (f p) (each_form f ps) fs e in
      ap (λ o. both o (each_form g ps)) (keep p a.0 a.2) ∙ ap (both (Some a.0)) (each_keep ps a.1 a.3) ∙ ap Some a.4

  class_keep : (i : ClassId) (d : Option ClassDecl) (x : Form) → class_form f i d ≡ Some x → class_form g i d ≡ Some x
  class_keep i d x e =
      let a = and_then_some (λ (d : ClassDecl). option_and_then (body_form f i d.key) d.body) d x e in
      let b = and_then_some (body_form f i a.0.key) a.0.body x a.2 in
      let c = with_some i (is_union a.0.key) (each_form f (base_parts a.0.key b.0)) (each_form f (member_parts b.0)) x b.2 in
      ap (class_form g i) a.1 ∙ ap (option_and_then (body_form g i a.0.key)) b.1
      ∙ ap (λ o. with_parts i (is_union a.0.key) o (each_form g (member_parts b.0))) (each_keep (base_parts a.0.key b.0) c.0 c.2)
      ∙ ap (with_parts i (is_union a.0.key) (Some c.0)) (each_keep (member_parts b.0) c.1 c.3)
      ∙ ap Some c.4

  kind_keep : (k : TypeKind) (x : Form) → kind_form t f k ≡ Some x → kind_form t g k ≡ Some x
  kind_keep kind.Void x e = e
  kind_keep kind.Nullptr x e = e
  kind_keep (kind.Int _) x e = e
  kind_keep (kind.Enum _) x e = e
  kind_keep (kind.Pointer _) x e = e
  kind_keep (kind.Reference _) x e = e
  kind_keep (kind.Array of n) x e = let a = map_some (Row n) (f (OfType of)) x e in ap (option_map (Row n)) (keep (OfType of) a.0 a.1) ∙ ap Some a.2
  kind_keep (kind.Class i) x e = class_keep i (slice_get t.classes i.0) x e

  part_keep : (p : Part) (x : Form) → part_form t f p ≡ Some x → part_form t g p ≡ Some x
  part_keep (OfType id) x e =
      let a = and_then_some (λ (r : TypeRow). kind_form t f r.kind) (slice_get t.rows id.0) x e in
      ap (option_and_then (λ (r : TypeRow). kind_form t g r.kind)) a.1 ∙ kind_keep a.0.kind x a.2
  part_keep (OfClass i) x e = class_keep i (slice_get t.classes i.0) x e

deeper : (t : Tables) (l : ℕ) (p : Part) (x : Form) → form_in t l p ≡ Some x → form_in t (suc l) p ≡ Some x
unfolding form_in
deeper t zero p x e = absurd (cc)
deeper t (suc l) p x e = part_keep t (form_in t l) (form_in t (suc l)) (deeper t l) p x e

much_deeper : (t : Tables) (k l : ℕ) (p : Part) (x : Form) → form_in t l p ≡ Some x → form_in t (k + l) p ≡ Some x
much_deeper t zero l p x e = let w : 0 + l ≡ l = omega arith in subst (λ n. form_in t n p ≡ Some x) (sym w) e
much_deeper t (suc k) l p x e = let w : suc k + l ≡ suc (k + l) = omega arith in subst (λ n. form_in t n p ≡ Some x) (sym w) (deeper t (k + l) p x (much_deeper t k l p x e))

-- so it is one at all levels
one_form : (t : Tables) (l m : ℕ) (p : Part) (x y : Form) → form_in t l p ≡ Some x → form_in t m p ≡ Some y → x ≡ y
one_form t l m p x y e h =
    let w : m + l ≡ l + m = omega arith in
    some_inj x y (sym (much_deeper t m l p x e) ∙ ap (λ n. form_in t n p) w ∙ much_deeper t l m p y h)

-- an item of a list of parts
item_from : {A : Type 0} (below : Part → Option Form) (g : A → Part) (u : Bool) (xs : List A) (fs : Forms) (i : ℕ) (q : forms.Part) → each_form below (map g xs) ≡ Some fs → item u fs i ≡ Some q → (x : A) × (slice_get xs i ≡ Some x) × (below (g x) ≡ Some q.form)
item_from below g u [] fs i q e h = let w : item u End i ≡ Some q = ap (λ k. item u k i) (some_inj End fs e) ∙ h in absurd (cc)
item_from below g u (x ∷ xs) fs zero q e h =
    let m = both_some (below (g x)) (each_form below (map g xs)) fs e in
    let w : whole m.0 ≡ q = some_inj (whole m.0) q (ap (λ k. item u k 0) m.4 ∙ h) in
    (x, refl, m.2 ∙ ap (λ (z : forms.Part). Some z.form) w)
item_from below g u (x ∷ xs) fs (suc i) q e h =
    let m = both_some (below (g x)) (each_form below (map g xs)) fs e in
    let n = map_some (further (nodes m.0) (stride u m.0)) (item u m.1 i) q (ap (λ k. item u k (suc i)) m.4 ∙ h) in
    let r = item_from below g u xs m.1 i n.0 m.3 n.1 in
    (r.0, r.1, r.2 ∙ ap (λ (z : forms.Part). Some z.form) n.2)

class_inj : (c d : ClassId) (u v : Bool) (bs cs ms ns : Forms) → Class c u bs ms ≡ Class d v cs ns → ms ≡ ns
class_inj c d u v bs cs ms ns e = cc

pub record MemberOf (t : Tables) (c : ClassId) (m : ℕ) (f : Form) : Type 0 where
  pub field : Field
  pub is_field : field_of t c m ≡ Some field
  pub new : (p : Phase) → new_tree t p field.ty ≡ fresh p f

module _ (t : Tables) (sound : Sound t) where
  pub member_of : (c : ClassId) (ms : Forms) (m : ℕ) (a : forms.Part) → Has t sound (kind.Class c) (Class c true End ms) → item true ms m ≡ Some a → MemberOf t c m a.form
  member_of c ms m a h i =
      let w = class_has t sound c (Class c true End ms) h in
      let same : w.members ≡ ms = class_inj c c (is_union w.decl.key) true w.bases End w.members ms w.form in
      let x = item_from (form_in t h.0) (λ (f : Field). OfType f.ty) true w.body.fields w.members m a w.has_members (ap (λ k. item true k m) same ∙ i) in
      let body : body_at t c ≡ Some w.body = ap (option_and_then (λ (d : ClassDecl). d.body)) w.is_decl ∙ w.is_body in
      let complete : is_complete t x.0.ty ≡ true = sound.fields_complete c w.body m x.0 body x.1 in
      let told = form_told t x.0.ty sound complete in
      let one : told.form ≡ a.form = one_form t most_levels h.0 (OfType x.0.ty) told.form a.form told.is_form x.2 in
      record {
        field = x.0;
        is_field = ap (option_and_then (λ (b : ClassBody). slice_get b.fields m)) body ∙ x.1;
        new = λ p. type_new t p x.0.ty told.form complete told.is_form ∙ ap (fresh p) one;
      }

  -- what an activated member is
  pub member_new : (c : ClassId) (m : ℕ) (f : Form) (r : TypeRow) (p : Phase) → r.kind ≡ kind.Class c → MemberOf t c m f → member_tree t p m (Some r) ≡ fresh p f
  member_new c m f r p e h =
      ap (λ k. unwrap_or (option_map (λ (f : Field). new_tree t p f.ty) (option_and_then (λ c. field_of t c m) (class_of k))) blank) e
      ∙ ap (λ o. unwrap_or (option_map (λ (f : Field). new_tree t p f.ty) o) blank) h.is_field ∙ h.new p
