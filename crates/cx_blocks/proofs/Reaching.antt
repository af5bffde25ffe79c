-- A known place is one to which its steps lead, and what is there is of the form of its type.
use Rattle.std.proofs.Common.{◌≡◌, ℕ, ◌<◌, Bool, true, false, List, [], ◌∷◌, length, Option, None, Some, ◌⊎◌, inl, inr, refl, sym, ap, subst, ◌∙◌, slice_get}
use Rattle.std.specs.Prelude.{option_map, option_and_then}
use Rattle.cx_type_defs.specs.declared.ids.Step.{Step}
use Rattle.cx_type_defs.specs.declared.ids.Step.TheVariants as step
use Rattle.cx_type_defs.specs.declared.ids.ClassId.{ClassId}
use Rattle.cx_type_defs.specs.declared.kind.TypeRow.{TypeRow}
use Rattle.cx_type_defs.specs.declared.kind.TypeKind.{TypeKind}
use Rattle.cx_type_defs.specs.declared.kind.TypeKind.TheVariants as kind
use Rattle.cx_type_defs.specs.Tables.{Tables, base_of}
use Rattle.cx_type_defs.specs.Sound.{Sound}
use Rattle.cx_type_defs.proofs.Lists.{some_inj, option_and_then-some}
use Rattle.cx_state.specs.Objects.{Path, Object, Objects}
use Rattle.cx_state.specs.Places.{row_below, root_row, row_of, spot, spot_of, spot_row, index_row, base_row}
use Rattle.cx_state.specs.Forms.{Knows}
use Rattle.cx_state.proofs.Complete.{is_some-true}
use Rattle.cx_state.proofs.Known.{known-object}
use Rattle.cx_state.proofs.Written.{place-at}
use Rattle.cx_layout.specs.declared.columns.Descriptor.{Descriptor}
use Rattle.cx_layout.specs.declared.place.Place.{Place}
use Rattle.cx_layout.specs.Forms.{Form, Part, below_of}
use Rattle.cx_layout.specs.Places.{Leads}
use Rattle.cx_layout.specs.Described.{columns_form, form_at}
use Rattle.cx_layout.proofs.Wholes.{form_is}
use Rattle.cx_layout.proofs.Placing.{AtPart, at_part}
use Rattle.cx_layout.proofs.Agreeing.{Has, Both, below_both, root_has}
use Rattle.cx_blocks.specs.declared.block.Block.{Block}
use Rattle.cx_blocks.specs.Paths.{nowhere, steps_to}
use Rattle.cx_blocks.specs.Seen.{paths_in, object_in, objects_in}
use Rattle.cx_blocks.specs.Fits.{AllKnown, Fits}
use Rattle.cx_blocks.proofs.Lists.{get_at, get_within}
use Rattle.cx_blocks.proofs.Leading.{surely}
use Rattle.cx_blocks.proofs.Objects.{the_object, as_many, steps_in}

-- a base has no elements

no_base_part : (t : Tables) (past : Bool) (o : Option ClassId) → option_and_then (index_row t past 0) (option_and_then (λ (q : TypeRow). row_below t q []) (option_map base_row o)) ≡ None
no_base_part t past None = refl
no_base_part t past (Some c) = refl

nowhere_unknown : (t : Tables) (past : Bool) (r : TypeRow) → spot_row t past (spot_of past nowhere) r ≡ None
nowhere_unknown t past r = go r.kind
  where
    go : (k : TypeKind) → option_and_then (index_row t past 0) (row_below t (record { kind = k; konst = r.konst }) (step.Base 0 ∷ [])) ≡ None
    go (kind.Class c) = no_base_part t past (base_of t c 0)
    go kind.Void = refl
    go kind.Nullptr = refl
    go (kind.Int _) = refl
    go (kind.Enum _) = refl
    go (kind.Pointer _) = refl
    go (kind.Reference _) = refl
    go (kind.Array _ _) = refl

none_some : {A : Type 0} (a : A) → None ≡ Some a → ⊥
none_some a e = cc

pub no_such : (t : Tables) (os : Objects) (p : Path) → Knows t os p → p.steps ≡ nowhere → ⊥
no_such t os p k e =
    let all = is_some-true (row_of t os p) k in
    let x = option_and_then-some (λ (o : Object). option_and_then (spot_row t p.past (spot p)) (root_row t o)) (slice_get os p.object) all.0 all.1 in
    let y = option_and_then-some (spot_row t p.past (spot p)) (root_row t x.0) all.0 x.2 in
    none_some all.0 (sym (nowhere_unknown t p.past y.0) ∙ ap (λ ss. spot_row t p.past (spot_of p.past ss) y.0) (sym e) ∙ y.2)

-- a known place is in a block
pub known_block : (t : Tables) (ds : List Descriptor) (bs : List Block) (at : Place) → Knows t (objects_in ds bs) (paths_in ds bs at) → at.block < length bs
known_block t ds bs at k =
    let o = known-object t (objects_in ds bs) (paths_in ds bs at) k in
    subst (λ n. at.block < n) (as_many ds bs) (get_within (objects_in ds bs) at.block o.0 o.1)

module _ (t : Tables) (ds : List Descriptor) (bs : List Block) (known : AllKnown ds bs) (at : Place) (b : Block) (is_block : slice_get bs at.block ≡ Some b) (k : Knows t (objects_in ds bs) (paths_in ds bs at)) where
  abbrev os : Objects
  os = objects_in ds bs

  abbrev p : Path
  p = paths_in ds bs at

  abbrev o : Object
  o = object_in (paths_in ds bs) ds b

  -- its steps lead to it
  pub steps_lead : Leads (form_at ds b.desc) p.steps at
  steps_lead =
      let e = steps_in ds bs at b is_block in
      subst (λ us. Leads (form_at ds b.desc) us at) (sym e)
      (elim (surely (form_at ds b.desc) at) as (λ _. Leads (form_at ds b.desc) (steps_to (form_at ds b.desc) at) at) [
        | inl w ↦ absurd (no_such t os p k (e ∙ w))
        | inr w ↦ w
      ])

  module _ (sound : Sound t) (live : ℕ) (fits : Fits t ds bs live) (here : at.past ≡ false) where
    -- what is there, and its type
    pub record Reached : Type 0 where
      pub part : Part
      pub leads : below_of (form_at ds b.desc) p.steps ≡ Some part
      pub node : part.node ≡ at.node
      pub slot : part.slot ≡ at.slot
      pub row : TypeRow
      pub is_row : row_of t os p ≡ Some row
      pub has : Has t sound row.kind part.form

    pub reached : Reached
    reached =
        let a = at_part (form_at ds b.desc) p.steps at here steps_lead in
        let row = is_some-true (row_of t os p) k in
        let w = place-at t os p row.0 here row.1 in
        let same : w.object ≡ o = some_inj w.object o (sym w.is_object ∙ the_object ds bs at.block b is_block) in
        let r = root_has t sound o (form_at ds b.desc) (fits.each at.block b is_block).form in
        let root : w.root ≡ r.0 = some_inj w.root r.0 (sym w.is_root ∙ ap (root_row t) same ∙ r.1) in
        let x : row_below t r.0 p.steps ≡ Some row.0 = ap (λ q. row_below t q p.steps) (sym root) ∙ w.leads in
        let both = below_both t sound p.steps r.0 (form_at ds b.desc) r.2 in
        record {
          part = a.part;
          leads = a.leads;
          node = a.node;
          slot = a.slot;
          row = row.0;
          is_row = row.1;
          has = subst (λ y. Both t sound y (Some a.part)) x (subst (Both t sound (row_below t r.0 p.steps)) a.leads both);
        }
