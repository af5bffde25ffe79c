-- The slots that an object shows.
use Rattle.std.proofs.Common.{◌≡◌, ℕ, nat_lt, true, false, ◌||◌, not, List, length, Option, None, Some, inl, inr, refl, sym, ap, subst, ◌∙◌, slice_get, arith, if◌then◌else◌}
use Rattle.std.proofs.lemmas.Bool.{lt-ltb, cases_Bool}
use Rattle.std.proofs.lemmas.Option.{slice_get_cases}
use Rattle.std.specs.Prelude.{is_some, option_map}
use Rattle.cx_type_defs.specs.Tables.{Tables}
use Rattle.cx_type_defs.proofs.Lists.{some_inj}
use Rattle.cx_state.specs.declared.kind.Phase.TheVariants as phase
use Rattle.cx_state.specs.Objects.{Path, Object}
use Rattle.cx_state.specs.Conditions.{is_opaque}
use Rattle.cx_layout.specs.declared.columns.Descriptor.{Descriptor}
use Rattle.cx_layout.specs.declared.place.Place.{Place}
use Rattle.cx_layout.specs.Forms.{Form, cells}
use Rattle.cx_layout.specs.TypeForms.{object_form}
use Rattle.cx_layout.specs.declared.columns.Columns.{Columns}
use Rattle.cx_layout.specs.Described.{form_at, columns_form, IsTable}
use Rattle.cx_layout.proofs.Options.{not_lt}
use Rattle.cx_slots.specs.declared.slot.SlotView.{SlotView}
use Rattle.cx_slots.specs.Slots.{slot_seen, slots_seen}
use Rattle.cx_slots.specs.Flat.{Fits as FitsForm, flat, picture}
use Rattle.cx_slots.specs.Fresh.{fresh, new_slots}
use Rattle.cx_slots.proofs.Lengths.{flat_length}
use Rattle.cx_slots.proofs.Seen.{seen_get}
use Rattle.cx_blocks.specs.declared.block.Block.{Block}
use Rattle.cx_blocks.specs.Seen.{paths_in, phase_of, object_in, objects_in}
use Rattle.cx_blocks.specs.Fits.{Fits}
use Rattle.cx_blocks.specs.News.{IsNew, NewAt}
use Rattle.cx_blocks.proofs.Objects.{the_object, block_tree}

some_at : {A : Type 0} (l : List A) (i : ℕ) → is_some (slice_get l i) ≡ nat_lt i (length l)
some_at l i = elim ((slice_get_cases l i).1) as (λ _. is_some (slice_get l i) ≡ nat_lt i (length l)) [
  | inl h ↦ ap is_some h.2 ∙ sym (lt-ltb i (length l) h.1)
  | inr h ↦ ap is_some h.1 ∙ sym (not_lt i (length l) h.0)
]

some_seen : (path : Place → Path) (r : Option SlotView) → is_some (option_map (slot_seen path) r) ≡ is_some r
some_seen path None = refl
some_seen path (Some v) = refl

-- columns have room for what a new tree of them shows
pub table_new : (c : Columns) → IsTable c → IsNew c.nodes.items c.parts.items 0
table_new c h =
    let a = h.few_cells in
    let b = h.few_nodes in
    let d = h.few_rows in
    record { form = columns_form c; laid = h.laid; within = omega arith; small = omega arith; few = omega arith }

module _ (ds : List Descriptor) (bs : List Block) (n : ℕ) (b : Block) (is_block : slice_get bs n ≡ Some b) (t : Tables) (o : Object) (live : ℕ) (fits : Fits t ds bs live) (is_object : slice_get (objects_in ds bs) n ≡ Some o) where
  same : object_in (paths_in ds bs) ds b ≡ o
  same = some_inj (object_in (paths_in ds bs) ds b) o (sym (the_object ds bs n b is_block) ∙ is_object)

  pub kept_living : b.kept ≡ true → o.released ≡ false
  kept_living k = ap (λ (x : Object). x.released) (sym same) ∙ (fits.each n b is_block).live k

  pub told_kept : is_opaque o.birth ≡ false → o.released ≡ false → b.kept ≡ true
  told_kept e r =
      let x : is_opaque b.birth ≡ false = ap (λ (x : Object). is_opaque x.birth) same ∙ e in
      let y : b.released ≡ false = ap (λ (x : Object). x.released) same ∙ r in
      (fits.each n b is_block).told (ap (λ z. not (z || b.released)) x ∙ ap not y)

  pub shown : b.kept ≡ true → (f : Form) → object_form t o.ty o.count ≡ Some f → (l : List SlotView) → l ≡ b.slots.items → slots_seen (paths_in ds bs) l ≡ flat f o.tree
  shown k f e l z =
      let h = fits.each n b is_block in
      let path = paths_in ds bs in
      let g : form_at ds b.desc ≡ f = some_inj (form_at ds b.desc) f (sym h.form ∙ ap (λ (x : Object). object_form t x.ty x.count) same ∙ e) in
      let tree : picture (form_at ds b.desc) (slots_seen path b.slots.items) ≡ o.tree =
      sym (ap (λ x. if x then picture (form_at ds b.desc) (slots_seen path b.slots.items) else fresh (phase_of b) (form_at ds b.desc)) k) ∙ ap (λ (x : Object). x.tree) same in
      ap (slots_seen path) z ∙ sym (h.stands k).all ∙ ap (flat (form_at ds b.desc)) tree ∙ ap (λ m. flat m o.tree) g

  -- cell by cell

  form_is : (f : Form) → object_form t o.ty o.count ≡ Some f → form_at ds b.desc ≡ f
  form_is f e = some_inj (form_at ds b.desc) f (sym (fits.each n b is_block).form ∙ ap (λ (x : Object). object_form t x.ty x.count) same ∙ e)

  tree_is : b.kept ≡ false → (f : Form) → object_form t o.ty o.count ≡ Some f → o.tree ≡ fresh (phase_of b) f
  tree_is k f e =
      let path = paths_in ds bs in
      let g = form_at ds b.desc in
      sym (ap (λ (x : Object). x.tree) same) ∙ ap (λ x. if x then picture g (slots_seen path b.slots.items) else fresh (phase_of b) g) k ∙ ap (fresh (phase_of b)) (form_is f e)

  tree_ended : o.released ≡ true → (f : Form) → object_form t o.ty o.count ≡ Some f → o.tree ≡ fresh phase.Ended f
  tree_ended r f e = elim (cases_Bool b.kept) as (λ _. o.tree ≡ fresh phase.Ended f) [
    | inl k ↦ (let z : true ≡ false = sym r ∙ kept_living k in absurd (cc))
    | inr k ↦ (let z : b.released ≡ true = ap (λ (x : Object). x.released) same ∙ r in tree_is k f e ∙ ap (λ x. fresh (if x then phase.Ended else phase.Unborn) f) z)
  ]

  module _ (i : ℕ) (f : Form) (form : object_form t o.ty o.count ≡ Some f) where
    pub kept_shows : b.kept ≡ true → option_map (slot_seen (paths_in ds bs)) (slice_get b.slots.items i) ≡ slice_get (flat f o.tree) i
    kept_shows k = sym (seen_get (paths_in ds bs) b.slots.items i) ∙ ap (λ l. slice_get l i) (shown k f form b.slots.items refl)

    pub fresh_shows : b.kept ≡ false → (c : Columns) → columns_form c ≡ form_at ds b.desc → IsTable c → (r : Option SlotView) → NewAt c.nodes.items c.parts.items (phase_of b) 0 i r → option_map (slot_seen (paths_in ds bs)) r ≡ slice_get (flat f o.tree) i
    fresh_shows k c g table r h = h (columns_form c) table.laid (paths_in ds bs) ∙ ap (λ (x : Form). slice_get (new_slots (phase_of b) x) i) (g ∙ form_is f form) ∙ sym (ap (λ x. slice_get (flat f x) i) (tree_is k f form))

    module _ (r : Option SlotView) (shows : option_map (slot_seen (paths_in ds bs)) r ≡ slice_get (flat f o.tree) i) where
      pub slot_cells : is_some r ≡ nat_lt i (cells f)
      slot_cells =
          let g = form_is f form in
          let x = subst (λ (z : Object). FitsForm (form_at ds b.desc) z.tree) same (block_tree t (paths_in ds bs) ds b (fits.each n b is_block)) in
          let y = subst (λ z. FitsForm z o.tree) g x in
          sym (some_seen (paths_in ds bs) r) ∙ ap is_some shows ∙ some_at (flat f o.tree) i ∙ ap (nat_lt i) (flat_length f o.tree y)

      pub slot_ended : o.released ≡ true → option_map (slot_seen (paths_in ds bs)) r ≡ slice_get (new_slots phase.Ended f) i
      slot_ended e = shows ∙ ap (λ x. slice_get (flat f x) i) (tree_ended e f form)
