-- What pointer calls look up in types is what they look up in forms.
use Rattle.std.proofs.Common.{◌≡◌, ℕ, ◌==◌, nat_lt, Bool, true, false, ◌&&◌, ◌||◌, not, List, [], ◌∷◌, Option, None, Some, Result, Ok, Err, refl, sym, ap, ◌∙◌, slice_get, eq-eqb, ℤ, pos, ◌-ℤ◌, if◌then◌else◌}
use Rattle.std.specs.Prelude.{option_map, option_and_then, unwrap_or}
use Rattle.cx_base.specs.declared.rule.Rule.{Rule}
use Rattle.cx_base.specs.declared.rule.Rule.TheVariants as rule
use Rattle.cx_type_defs.specs.declared.ids.Step.{Step}
use Rattle.cx_type_defs.specs.declared.ids.TypeId.{TypeId}
use Rattle.cx_type_defs.specs.declared.kind.TypeRow.{TypeRow}
use Rattle.cx_type_defs.specs.declared.kind.TypeKind.{TypeKind}
use Rattle.cx_type_defs.specs.declared.kind.TypeKind.TheVariants as kind
use Rattle.cx_type_defs.specs.declared.decl.ClassDecl.{ClassDecl}
use Rattle.cx_type_defs.specs.declared.decl.ClassKey.{ClassKey}
use Rattle.cx_type_defs.specs.declared.decl.ClassKey.TheVariants as key
use Rattle.cx_type_defs.specs.Tables.{Tables}
use Rattle.cx_type_defs.specs.Questions.{OfType}
use Rattle.cx_type_defs.specs.Sound.{Sound}
use Rattle.cx_state.specs.Objects.{Path, Objects, same_step, same_steps, same_bool, same_path}
use Rattle.cx_state.proofs.PointerLaws.{same_array-swap}
use Rattle.cx_state.specs.Places.{row_part, row_below, root_row, spot, elements}
use Rattle.cx_state.specs.Pointers as pointers
use Rattle.cx_state.specs.Pointers.{is_dangling, first_row, count_at, moved, same_array, Parting, parting, parts_at, is_union_key, is_union_kind, part_before, or_unspecified, apart_from_end, in_literal, is_within, are_members}
use Rattle.cx_layout.specs.Forms.{Form, Leaf, Row, Part, further, whole, part_of, below_of}
use Rattle.cx_layout.specs.TypeForms as forms
use Rattle.cx_layout.specs.TypeForms.{body_form, base_parts, member_parts, each_form, kind_form, form_in}
use Rattle.cx_layout.proofs.Options.{some_inj, and_then_some, map_some}
use Rattle.cx_layout.proofs.Forming.{with_some}
use Rattle.cx_layout.proofs.Agreeing.{Has, Both, below_both, root_has}
use Rattle.cx_slot_places.specs.Pointers.{HasForm, row_count, array_count, added, distance_of, Parted, is_union, parted, comes_before, less_of, are_in_union, equal_of}

or_false : (b : Bool) → (b || false) ≡ b
or_false true = refl
or_false false = refl

same_key : (k : ClassKey) → forms.is_union k ≡ is_union_key k
same_key key.Class = refl
same_key key.Struct = refl
same_key key.Union = refl

module _ (t : Tables) (sound : Sound t) where
  abbrev many_of : Option (ℕ × TypeId) → ℕ
  many_of o = unwrap_or (option_map (λ (e : ℕ × TypeId). e.0) o) 0

  row_is : (m : ℕ) (k : TypeKind) (g : Form) → kind_form t (form_in t m) k ≡ Some g → many_of (elements k) ≡ row_count g
  row_is m kind.Void g e = absurd (cc)
  row_is m kind.Nullptr g e = ap row_count (some_inj Leaf g e)
  row_is m (kind.Int x) g e = ap row_count (some_inj Leaf g e)
  row_is m (kind.Enum x) g e = ap row_count (some_inj Leaf g e)
  row_is m (kind.Pointer x) g e = ap row_count (some_inj Leaf g e)
  row_is m (kind.Reference x) g e = ap row_count (some_inj Leaf g e)
  row_is m (kind.Array of n) g e = let a = map_some (Row n) (form_in t m (OfType of)) g e in ap row_count a.2
  row_is m (kind.Class c) g e =
      let a = and_then_some (λ (d : ClassDecl). option_and_then (body_form (form_in t m) c d.key) d.body) (slice_get t.classes c.0) g e in
      let b = and_then_some (body_form (form_in t m) c a.0.key) a.0.body g a.2 in
      let w = with_some c (forms.is_union a.0.key) (each_form (form_in t m) (base_parts a.0.key b.0)) (each_form (form_in t m) (member_parts b.0)) g b.2 in
      ap row_count w.4

  union_is : (m : ℕ) (k : TypeKind) (g : Form) → kind_form t (form_in t m) k ≡ Some g → is_union g ≡ is_union_kind t k
  union_is m kind.Void g e = absurd (cc)
  union_is m kind.Nullptr g e = ap is_union (sym (some_inj Leaf g e))
  union_is m (kind.Int x) g e = ap is_union (sym (some_inj Leaf g e))
  union_is m (kind.Enum x) g e = ap is_union (sym (some_inj Leaf g e))
  union_is m (kind.Pointer x) g e = ap is_union (sym (some_inj Leaf g e))
  union_is m (kind.Reference x) g e = ap is_union (sym (some_inj Leaf g e))
  union_is m (kind.Array of n) g e = let a = map_some (Row n) (form_in t m (OfType of)) g e in ap is_union (sym a.2)
  union_is m (kind.Class c) g e =
      let a = and_then_some (λ (d : ClassDecl). option_and_then (body_form (form_in t m) c d.key) d.body) (slice_get t.classes c.0) g e in
      let b = and_then_some (body_form (form_in t m) c a.0.key) a.0.body g a.2 in
      let w = with_some c (forms.is_union a.0.key) (each_form (form_in t m) (base_parts a.0.key b.0)) (each_form (form_in t m) (member_parts b.0)) g b.2 in
      ap is_union (sym w.4) ∙ same_key a.0.key ∙ ap (λ o. unwrap_or (option_map (λ (d : ClassDecl). is_union_key d.key) o) false) (sym a.1)

  both_many : (x : Option TypeRow) (a : Option Part) → Both t sound x a → many_of (option_and_then (λ (r : TypeRow). elements r.kind) x) ≡ unwrap_or (option_map (λ (p : Part). row_count p.form) a) 0
  both_many None None b = refl
  both_many (Some r) (Some q) b = row_is b.0 r.kind q.form b.1
  both_many None (Some q) b = absurd b
  both_many (Some r) None b = absurd b

  pub part_both : (s : Step) (r : TypeRow) (g : Form) → Has t sound r.kind g → Both t sound (row_part t r s) (part_of g s)
  part_both s r g h = go (row_part t r s) (part_of g s) (below_both t sound (s ∷ []) r g h)
    where
      go : (x : Option TypeRow) (a : Option Part) → Both t sound (option_and_then (λ (q : TypeRow). Some q) x) (option_and_then (λ (p : Part). option_map (further p.node p.slot) (Some (whole p.form))) a) → Both t sound x a
      go None None b = b
      go (Some q) (Some p) b = b
      go None (Some p) b = b
      go (Some q) None b = b

  abbrev view : Parting → Parted
  view x = record { in_union = is_union_kind t x.row.kind; left = x.left; right = x.right }

  parted_is : (ss us : List Step) (r : TypeRow) (g : Form) → Has t sound r.kind g → option_map view (parting t r ss us) ≡ parted g ss us
  parted_is [] [] r g h = refl
  parted_is [] (u ∷ us) r g h = refl
  parted_is (s ∷ ss) [] r g h = refl
  parted_is (s ∷ ss) (u ∷ us) r g h = go (same_step s u) (row_part t r s) (part_of g s) (part_both s r g h) (λ q p k. parted_is ss us q p k)
    where
      go : (b : Bool) (x : Option TypeRow) (a : Option Part) → Both t sound x a → ((q : TypeRow) (p : Form) → Has t sound q.kind p → option_map view (parting t q ss us) ≡ parted p ss us)
          → option_map view (if b then option_and_then (λ (q : TypeRow). parting t q ss us) x else Some (record { row = r; left = s; right = u })) ≡ (if b then option_and_then (λ (p : Part). parted p.form ss us) a else Some (record { in_union = is_union g; left = s; right = u }))
      go false x a k ih = ap (λ b. Some (record { in_union = b; left = s; right = u })) (sym (union_is h.0 r.kind g h.1))
      go true None None k ih = refl
      go true (Some q) (Some p) k ih = ih q p.form k
      go true None (Some p) k ih = absurd k
      go true (Some q) None k ih = absurd k

  module _ (os : Objects) (f : Form) (p : Path) (h : HasForm t os p.object f) where
    abbrev root : (r : TypeRow) × (root_row t h.object ≡ Some r) × Has t sound r.kind f
    root = root_has t sound h.object f h.form_is

    first_is : first_row t os p ≡ Some root.0
    first_is = ap (option_and_then (root_row t)) h.is_there ∙ root.1

    pub count_is : count_at t os p ≡ array_count f (spot p)
    count_is =
        ap (λ o. if (spot p).many then many_of (option_and_then (λ (r : TypeRow). elements r.kind) (option_and_then (λ r. row_below t r (spot p).array) o)) else 1) first_is
        ∙ ap (λ n. if (spot p).many then n else 1) (both_many (row_below t root.0 (spot p).array) (below_of f (spot p).array) (below_both t sound (spot p).array root.0 f root.2))

    pub add_is : (by : ℤ) → pointers.add t os p by ≡ (if is_dangling os p then Err rule.Dangling else added f p by)
    add_is by = ap (λ n. if is_dangling os p then Err rule.Dangling else moved p n by) count_is

    module _ (q : Path) (one : p.object ≡ q.object) where
      parts_are : option_map view (parts_at t os p q) ≡ parted f p.steps q.steps
      parts_are =
          ap (λ b. option_map view (if b then option_and_then (λ r. parting t r p.steps q.steps) (first_row t os p) else None)) (eq-eqb p.object q.object one)
          ∙ ap (λ o. option_map view (option_and_then (λ r. parting t r p.steps q.steps) o)) first_is
          ∙ parted_is p.steps q.steps root.0 f root.2

      before_is : option_and_then (part_before t) (parts_at t os p q) ≡ option_and_then comes_before (parted f p.steps q.steps)
      before_is = go (parts_at t os p q) ∙ ap (option_and_then comes_before) parts_are
        where
          go : (o : Option Parting) → option_and_then (part_before t) o ≡ option_and_then comes_before (option_map view o)
          go None = refl
          go (Some x) = refl

      members_are : pointers.in_two_members t os p q ≡ unwrap_or (option_map are_in_union (parted f p.steps q.steps)) false
      members_are = go (parts_at t os p q) ∙ ap (λ o. unwrap_or (option_map are_in_union o) false) parts_are
        where
          go : (o : Option Parting) → unwrap_or (option_map (λ (x : Parting). is_union_kind t x.row.kind && are_members x.left x.right) o) false ≡ unwrap_or (option_map are_in_union (option_map view o)) false
          go None = refl
          go (Some x) = refl

      pub less_is : pointers.less t os p q ≡ (if is_dangling os p || is_dangling os q then Err rule.Dangling else less_of f p q)
      less_is = ap (λ o. if is_dangling os p || is_dangling os q then Err rule.Dangling else if same_array p q then Ok (nat_lt (spot p).index (spot q).index) else if p.past || q.past then Err rule.UnspecifiedCompare else or_unspecified o) before_is

      pub equal_is : pointers.equal t os p q ≡ equal_of f p q
      equal_is =
          let a = apart_from_end p q || apart_from_end q p in
          ap (λ b. if same_path p q then Ok true else if a || (not b && in_literal os p && in_literal os q) || is_within p q || pointers.in_two_members t os p q then Err rule.UnspecifiedCompare else Ok false) (eq-eqb p.object q.object one)
          ∙ ap (λ b. if same_path p q then Ok true else if b || is_within p q || pointers.in_two_members t os p q then Err rule.UnspecifiedCompare else Ok false) (or_false a)
          ∙ ap (λ b. if same_path p q then Ok true else if a || is_within p q || b then Err rule.UnspecifiedCompare else Ok false) members_are

-- two objects

and_true : (b : Bool) → (b && true) ≡ b
and_true true = refl
and_true false = refl

no_array : (p q : Path) → (p.object == q.object) ≡ false → same_array p q ≡ false
no_array p q e = ap (λ b. b && same_bool (spot p).many (spot q).many && same_steps (spot p).array (spot q).array) e

pub apart_distance : (os : Objects) (p q : Path) → (p.object == q.object) ≡ false → is_dangling os p ≡ false → is_dangling os q ≡ false → pointers.distance os p q ≡ Err rule.PointerDistance
apart_distance os p q e a b =
    ap (λ c. if c || is_dangling os q then Err rule.Dangling else distance_of p q) a ∙ ap (λ c. if c then Err rule.Dangling else distance_of p q) b
    ∙ ap (λ c. if c then Ok (pos (spot p).index -ℤ pos (spot q).index) else Err rule.PointerDistance) (no_array p q e)

pub apart_less : (t : Tables) (os : Objects) (p q : Path) → (p.object == q.object) ≡ false → is_dangling os p ≡ false → is_dangling os q ≡ false → pointers.less t os p q ≡ Err rule.UnspecifiedCompare
apart_less t os p q e a b =
    ap (λ c. if c || is_dangling os q then Err rule.Dangling else if same_array p q then Ok (nat_lt (spot p).index (spot q).index) else tail (p.object == q.object)) a
    ∙ ap (λ c. if c then Err rule.Dangling else if same_array p q then Ok (nat_lt (spot p).index (spot q).index) else tail (p.object == q.object)) b
    ∙ ap (λ c. if c then Ok (nat_lt (spot p).index (spot q).index) else tail (p.object == q.object)) (no_array p q e) ∙ ap tail e ∙ either (p.past || q.past)
  where
    tail : Bool → Result Bool Rule
    tail b = if p.past || q.past then Err rule.UnspecifiedCompare else or_unspecified (option_and_then (part_before t) (if b then option_and_then (λ r. parting t r p.steps q.steps) (first_row t os p) else None))

    either : (b : Bool) → (if b then Err rule.UnspecifiedCompare else or_unspecified (option_and_then (part_before t) None)) ≡ Err rule.UnspecifiedCompare
    either true = refl
    either false = refl

pub apart_equal : (t : Tables) (os : Objects) (p q : Path) → (p.object == q.object) ≡ false → pointers.equal t os p q ≡ (if p.past || q.past || (in_literal os p && in_literal os q) then Err rule.UnspecifiedCompare else Ok false)
apart_equal t os p q e =
    let l = in_literal os p && in_literal os q in
    ap (λ b. if b && same_steps p.steps q.steps && same_bool p.past q.past then Ok true else if pointers.is_unspecified t os p q then Err rule.UnspecifiedCompare else Ok false) e
    ∙ ap (λ b. told (p.past && not b || pointers.apart_from_end q p || pointers.in_two_literals os p q || pointers.is_within p q || pointers.in_two_members t os p q)) (no_array p q e)
    ∙ ap (λ b. told (b || pointers.apart_from_end q p || pointers.in_two_literals os p q || pointers.is_within p q || pointers.in_two_members t os p q)) (and_true p.past)
    ∙ ap (λ b. told (p.past || q.past && not b || pointers.in_two_literals os p q || pointers.is_within p q || pointers.in_two_members t os p q)) (sym (same_array-swap p q) ∙ no_array p q e)
    ∙ ap (λ b. told (p.past || b || pointers.in_two_literals os p q || pointers.is_within p q || pointers.in_two_members t os p q)) (and_true q.past)
    ∙ ap (λ b. told (p.past || q.past || (not b && in_literal os p && in_literal os q) || pointers.is_within p q || pointers.in_two_members t os p q)) e
    ∙ ap (λ b. told (p.past || q.past || l || (b && (pointers.goes_on p.steps q.steps || pointers.goes_on q.steps p.steps)) || pointers.in_two_members t os p q)) e
    ∙ ap (λ b. told (b || pointers.in_two_members t os p q)) (or_false (p.past || q.past || l))
    ∙ ap (λ b. told (p.past || q.past || l || unwrap_or (option_map (λ (x : Parting). is_union_kind t x.row.kind && are_members x.left x.right) (if b then option_and_then (λ r. parting t r p.steps q.steps) (first_row t os p) else None)) false)) e
    ∙ ap told (or_false (p.past || q.past || l))
  where
    told : Bool → Result Bool Rule
    told b = if b then Err rule.UnspecifiedCompare else Ok false
