-- Blocks as objects: one by one, after a change of one, and where others come or go.
use Rattle.std.proofs.Common.{◌≡◌, ℕ, zero, suc, ◌+◌, ◌<◌, ◌≤◌, Bool, true, false, List, [], ◌∷◌, ◌++◌, length, map, take, sum, Option, None, Some, ◌⊎◌, inl, inr, refl, sym, ap, subst, ◌∙◌, slice_get, slice_set, arith, if◌then◌else◌}
use Rattle.std.specs.Prelude.{option_map, option_and_then, unwrap_or}
use Rattle.cx_type_defs.specs.declared.ids.Step.{Step}
use Rattle.cx_type_defs.specs.Tables.{Tables, changed_at}
use Rattle.cx_type_defs.proofs.Lists.{some_inj}
use Rattle.cx_state.specs.declared.kind.Phase.{Phase}
use Rattle.cx_state.specs.declared.kind.Scalar.{Scalar}
use Rattle.cx_state.specs.declared.kind.Scalar.TheVariants as scalar
use Rattle.cx_state.specs.Objects as tree
use Rattle.cx_state.specs.Objects.{Path, Tree, Object, Objects, below}
use Rattle.cx_state.specs.Forms.{Fit}
use Rattle.cx_store.specs.Stores.{IsPresent, Tells}
use Rattle.cx_layout.specs.declared.columns.Descriptor.{Descriptor}
use Rattle.cx_layout.specs.declared.place.Place.{Place}
use Rattle.cx_layout.specs.Forms.{Form}
use Rattle.cx_layout.specs.Described.{form_at}
use Rattle.cx_slots.specs.declared.slot.SlotView.{SlotView}
use Rattle.cx_slots.specs.Slots.{slots_seen}
use Rattle.cx_slots.specs.Flat.{Fits as FitsForm, Stands, flat, picture}
use Rattle.cx_slots.specs.Fresh.{fresh}
use Rattle.cx_slots.proofs.Fresh.{fresh_fits}
use Rattle.cx_blocks.specs.declared.block.Block.{Block}
use Rattle.cx_blocks.specs.Paths.{path_steps, path_in, steps_to, nowhere}
use Rattle.cx_blocks.specs.Seen.{descs_in, paths_in, phase_of, tree_in, object_in, objects_in}
use Rattle.cx_blocks.specs.Fits.{AllKnown, BlockFits, Fits, live_in, live_of}
use Rattle.cx_blocks.proofs.Lists.{get_map, length_map, get_at, get_within, map_set, set_still, set_changed, get_set}
use Rattle.cx_blocks.proofs.Seeing.{Agree, picture_same}
use Rattle.cx_blocks.proofs.Holding.{Holds, Slots, InTree, flat_slots, slots_same}
use Rattle.cx_blocks.proofs.Leading.{whole_steps}

pub the_object : (ds : List Descriptor) (bs : List Block) (n : ℕ) (b : Block) → slice_get bs n ≡ Some b → slice_get (objects_in ds bs) n ≡ Some (object_in (paths_in ds bs) ds b)
the_object ds bs n b e = get_map (object_in (paths_in ds bs) ds) bs n ∙ ap (option_map (object_in (paths_in ds bs) ds)) e

pub as_many : (ds : List Descriptor) (bs : List Block) → length (objects_in ds bs) ≡ length bs
as_many ds bs = length_map (object_in (paths_in ds bs) ds) bs

pub block_there : (ds : List Descriptor) (bs : List Block) (at : Place) → IsPresent (objects_in ds bs) (paths_in ds bs at) → at.block < length bs
block_there ds bs at h = subst (λ n. at.block < n) (as_many ds bs) h

-- the steps of a place in a block
pub steps_in : (ds : List Descriptor) (bs : List Block) (at : Place) (b : Block) → slice_get bs at.block ≡ Some b → (paths_in ds bs at).steps ≡ steps_to (form_at ds b.desc) at
steps_in ds bs at b e = ap (λ o. path_steps ds o at) (get_map (λ (x : Block). x.desc) bs at.block ∙ ap (option_map (λ (x : Block). x.desc)) e)

pub whole_path : (ds : List Descriptor) (bs : List Block) (n : ℕ) (b : Block) → slice_get bs n ≡ Some b → paths_in ds bs (record { block = n; slot = 0; node = 0; past = false }) ≡ record { object = n; steps = []; past = false }
whole_path ds bs n b e =
    ap (λ us. record { object = n; steps = us; past = false }) (steps_in ds bs (record { block = n; slot = 0; node = 0; past = false }) b e ∙ whole_steps (form_at ds b.desc) n)

-- one block changes, and its descriptor stays

module _ (ds : List Descriptor) (bs : List Block) (n : ℕ) (b now : Block) (is_block : slice_get bs n ≡ Some b) (same_desc : now.desc ≡ b.desc) where
  pub descs_set : descs_in (slice_set bs n now) ≡ descs_in bs
  descs_set = map_set (λ (x : Block). x.desc) bs n now ∙ ap (slice_set (descs_in bs) n) same_desc ∙ set_still (descs_in bs) n b.desc (get_map (λ (x : Block). x.desc) bs n ∙ ap (option_map (λ (x : Block). x.desc)) is_block)

  pub paths_set : paths_in ds (slice_set bs n now) ≡ paths_in ds bs
  paths_set = ap (path_in ds) descs_set

  pub objects_set : (h : Object → Object) → object_in (paths_in ds bs) ds now ≡ h (object_in (paths_in ds bs) ds b) → objects_in ds (slice_set bs n now) ≡ changed_at h (objects_in ds bs) n
  objects_set h e =
      let path = paths_in ds bs in
      ap (λ (p : Place → Path). map (object_in p ds) (slice_set bs n now)) paths_set
      ∙ map_set (object_in path ds) bs n now ∙ ap (slice_set (objects_in ds bs) n) e
      ∙ set_changed h (objects_in ds bs) n (object_in path ds b) (the_object ds bs n b is_block)

  pub live_set : live_in now ≡ live_in b → live_of (slice_set bs n now) ≡ live_of bs
  live_set e = ap sum (map_set live_in bs n now ∙ ap (slice_set (map live_in bs) n) e ∙ set_still (map live_in bs) n (live_in b) (get_map live_in bs n ∙ ap (option_map live_in) is_block))

  pub known_set : AllKnown ds bs → AllKnown ds (slice_set bs n now)
  known_set k m x e = elim (get_set bs n now m x e) as (λ _. x.desc < length ds) [
    | inl h ↦ subst (λ (y : Block). y.desc < length ds) (sym h.1) (subst (λ j. j < length ds) (sym same_desc) (k n b is_block))
    | inr h ↦ k m x h
  ]

  pub fits_set : (t : Tables) (live after : ℕ) → Fits t ds bs live → BlockFits t (paths_in ds bs) ds now → Fit t (objects_in ds (slice_set bs n now)) → after ≡ live_of (slice_set bs n now) → Fits t ds (slice_set bs n now) after
  fits_set t live after f h g e = record {
    fit = g;
    descriptors = f.descriptors;
    each = λ m x z. subst (λ (p : Place → Path). BlockFits t p ds x) (sym paths_set) (elim (get_set bs n now m x z) as (λ _. BlockFits t (paths_in ds bs) ds x) [
      | inl w ↦ subst (BlockFits t (paths_in ds bs) ds) (sym w.1) h
      | inr w ↦ f.each m x w
    ]);
    count = e;
  }

-- a block's tree is of its form

tree_fits : (f : Form) (l : List SlotView) (path : Place → Path) (p : Phase) (kept : Bool) → (kept ≡ true → Stands f (slots_seen path l)) → FitsForm f (if kept then picture f (slots_seen path l) else fresh p f)
tree_fits f l path p true h = (h refl).fits
tree_fits f l path p false h = fresh_fits p f

pub block_tree : (t : Tables) (path : Place → Path) (ds : List Descriptor) (b : Block) → BlockFits t path ds b → FitsForm (form_at ds b.desc) (object_in path ds b).tree
block_tree t path ds b h = tree_fits (form_at ds b.desc) b.slots.items path (phase_of b) b.kept h.stands

-- the same block by another reading of places, where that sees alike what the block holds

module _ (p q : Place → Path) (P : Path → Type 0) (alike : (at : Place) → P (p at) → p at ≡ q at) (ds es : List Descriptor) (b : Block) (same_form : form_at ds b.desc ≡ form_at es b.desc)
    (held : (ss : List Step) (x : Path) → below (object_in p ds b).tree ss ≡ Some (tree.Leaf (scalar.Place x)) → P x) where
  tree_same : (f : Form) (k : Bool) (ph : Phase) → Agree p q (if k then picture f (slots_seen p b.slots.items) else fresh ph f) → (if k then picture f (slots_seen p b.slots.items) else fresh ph f) ≡ (if k then picture f (slots_seen q b.slots.items) else fresh ph f)
  tree_same f true ph h = picture_same p q f b.slots.items h
  tree_same f false ph h = refl

  pub object_same : object_in p ds b ≡ object_in q es b
  object_same =
      ap (λ x. record (object_in p ds b) { tree = x })
      (tree_same (form_at ds b.desc) b.kept (phase_of b) (λ ss at e. alike at (held ss (p at) e)) ∙ ap (λ f. tree_in q f b) same_form)

  all_held : (x : Tree) → ((ss : List Step) (y : Path) → below x ss ≡ Some (tree.Leaf (scalar.Place y)) → P y) → InTree P x
  all_held x h ss (scalar.Int i) e = tt
  all_held x h ss scalar.Null e = tt
  all_held x h ss (scalar.Place y) e = h ss y e
  all_held x h ss scalar.Indeterminate e = tt

  stands_same : (f : Form) (k : Bool) (ph : Phase) → ((ss : List Step) (x : Path) → below (if k then picture f (slots_seen p b.slots.items) else fresh ph f) ss ≡ Some (tree.Leaf (scalar.Place x)) → P x) → (k ≡ true → Stands f (slots_seen p b.slots.items)) → k ≡ true → Stands f (slots_seen q b.slots.items)
  stands_same f true ph h s e =
      let st = s refl in
      let l = slots_seen p b.slots.items in
      let in_slots : Slots P l = subst (Slots P) st.all (flat_slots P f (picture f l) st.fits (all_held (picture f l) h)) in
      subst (Stands f) (slots_same P p q alike b.slots.items in_slots) st
  stands_same f false ph h s e = absurd (cc)

  pub refit : (t : Tables) → BlockFits t p ds b → BlockFits t q es b
  refit t h = record {
    form = h.form ∙ ap Some same_form;
    stands = λ e. subst (λ f. Stands f (slots_seen q b.slots.items)) same_form (stands_same (form_at ds b.desc) b.kept (phase_of b) held h.stands e);
    live = h.live;
    told = h.told;
    cells = h.cells;
  }

-- what is told of the object that a place is in
pub tells : (ds : List Descriptor) (bs : List Block) (at : Place) (b : Block) → slice_get bs at.block ≡ Some b
    → Tells (objects_in ds bs) (paths_in ds bs) at (record { place = record { block = at.block; slot = 0; node = 0; past = false }; number = at.block; kind = b.kind; birth = b.birth; released = b.released; length = b.length; past = at.past })
tells ds bs at b e o g =
    let s : object_in (paths_in ds bs) ds b ≡ o = some_inj (object_in (paths_in ds bs) ds b) o (sym (the_object ds bs at.block b e) ∙ g) in
    record {
      place = whole_path ds bs at.block b e;
      number = refl;
      kind = ap (λ (o : Object). o.kind) s;
      birth = ap (λ (o : Object). o.birth) s;
      released = ap (λ (o : Object). o.released) s;
      length = ap (λ (o : Object). o.count) s;
      past = refl;
    }
