-- New blocks.
use Rattle.std.proofs.Common.{◌≡◌, ℕ, zero, suc, ◌+◌, ◌*◌, ◌<◌, Bool, true, false, ◌&&◌, ◌||◌, not, List, [], ◌∷◌, ◌++◌, length, map, sum, Option, None, Some, Ok, Err, ◌⊎◌, inl, inr, if◌then◌else◌, refl, sym, ap, subst, ◌∙◌, slice_get, arith}
use Rattle.std.specs.Prelude.{option_map, option_and_then, unwrap_or}
use Rattle.std.specs.List.{find}
use Rattle.cx_base.specs.declared.rule.Rule.{Rule}
use Rattle.cx_base.specs.declared.limits.Limits.{Limits}
use Rattle.cx_type_defs.specs.declared.ids.Step.{Step}
use Rattle.cx_type_defs.specs.declared.ids.TypeId.{TypeId}
use Rattle.cx_type_defs.specs.Tables.{Tables}
use Rattle.cx_type_defs.specs.Questions.{asked, cells_of, OfType, is_complete}
use Rattle.cx_type_defs.specs.Sound.{Sound}
use Rattle.cx_type_defs.proofs.Lists.{slice_get-more, slice_get-last, slice_get-push}
use Rattle.cx_types.proofs.Totals.{sum-push}
use Rattle.cx_state.specs.declared.kind.Birth.{Birth}
use Rattle.cx_state.specs.declared.kind.Phase.TheVariants as phase
use Rattle.cx_state.specs.declared.kind.Scalar.TheVariants as scalar
use Rattle.cx_state.specs.Objects as tree
use Rattle.cx_state.specs.Objects.{Path, Object, Objects, below}
use Rattle.cx_state.specs.Conditions as on
use Rattle.cx_state.specs.Steps as steps
use Rattle.cx_state.specs.Steps.{new_tree}
use Rattle.cx_state.specs.Counts as counts
use Rattle.cx_state.specs.Counts.{new_object, whole_tree, cells_in, live_cells, passes_limit, limit_order, next_place}
use Rattle.cx_state.specs.Forms.{Knows, Fit}
use Rattle.cx_state.proofs.Making.{new-of, Fit-make}
use Rattle.cx_state.proofs.Known.{next_place-knows}
use Rattle.cx_store.specs.Stores.{KeepsPaths, Made}
use Rattle.cx_layout.specs.declared.columns.Descriptor.{Descriptor}
use Rattle.cx_layout.specs.declared.place.Place.{Place}
use Rattle.cx_layout.specs.Forms.{Form}
use Rattle.cx_layout.specs.TypeForms.{object_form}
use Rattle.cx_layout.specs.Described.{form_at}
use Rattle.cx_layout.proofs.Wholes.{form_added}
use Rattle.cx_slots.specs.declared.slot.SlotView.{SlotView}
use Rattle.cx_slots.specs.Slots.{slots_seen}
use Rattle.cx_slots.specs.Flat.{Stands, flat, picture}
use Rattle.cx_slots.specs.Fresh.{fresh}
use Rattle.cx_slots.proofs.Reading.{stands}
use Rattle.cx_slots.proofs.NewTrees.{object_new}
use Rattle.cx_slot_calls.specs.Rules.{Show}
use Rattle.cx_blocks.specs.declared.block.Block.{Block}
use Rattle.cx_blocks.specs.Paths.{path_steps, path_in, steps_to, nowhere}
use Rattle.cx_blocks.specs.Seen.{descs_in, paths_in, phase_of, object_in, objects_in}
use Rattle.cx_blocks.specs.Fits.{AllKnown, BlockFits, Fits, is_told, live_in, live_of}
use Rattle.cx_blocks.specs.Makes.{Grown, IsNew, NewSlots, Added, NotAdded, limit_broken}
use Rattle.cx_blocks.proofs.Lists.{get_map, length_map, get_at, get_within, map_more, map_same}
use Rattle.cx_blocks.proofs.Objects.{the_object, as_many, whole_path, object_same, refit}
use Rattle.cx_blocks.proofs.Wholes.{live_cells_are}
use Rattle.cx_blocks.proofs.Known.{held_within}

pub complete_known : (t : Tables) (ty : TypeId) → is_complete t ty ≡ true → ty.0 < length t.rows
complete_known t ty e = let w = new-of t phase.Unborn ty e in get_within t.rows ty.0 w.row w.is_row

-- the limits

pub limit_is : (t : Tables) (limits : Limits) (ds : List Descriptor) (bs : List Block) (live : ℕ) (q : counts.Request) (counted : Bool) (cells : ℕ) → Fits t ds bs live → counted ≡ counts.counts q.kind q.birth → cells ≡ cells_in t (new_object t q)
    → limit_broken limits (length bs) live counted cells ≡ find (passes_limit t limits (objects_in ds bs) (new_object t q)) limit_order
limit_is t limits ds bs live q counted cells f e h =
    ap (λ n. limit_broken limits n live counted cells) (sym (as_many ds bs))
    ∙ ap (λ n. limit_broken limits (length (objects_in ds bs)) n counted cells) (live_cells_are t ds bs live f)
    ∙ ap (λ b. limit_broken limits (length (objects_in ds bs)) (live_cells t (objects_in ds bs)) b cells) e
    ∙ ap (limit_broken limits (length (objects_in ds bs)) (live_cells t (objects_in ds bs)) (counts.counts q.kind q.birth)) h

pub make_err : (t : Tables) (limits : Limits) (os : Objects) (q : counts.Request) (r : Rule) → find (passes_limit t limits os (new_object t q)) limit_order ≡ Some r → counts.make t limits os q ≡ Err r
make_err t limits os q r e = ap (λ o. steps.unless o (os ++ new_object t q ∷ [])) e

pub make_ok : (t : Tables) (limits : Limits) (os : Objects) (q : counts.Request) → find (passes_limit t limits os (new_object t q)) limit_order ≡ None → counts.make t limits os q ≡ Ok (os ++ new_object t q ∷ [])
make_ok t limits os q e = ap (λ o. steps.unless o (os ++ new_object t q ∷ [])) e

-- a new block is a new object

module _ (t : Tables) (path : Place → Path) (ds : List Descriptor) (q : counts.Request) (b : Block) (new : IsNew t ds q b) (complete : is_complete t q.ty ≡ true) where
  abbrev f : Form
  f = form_at ds b.desc

  whole_new : whole_tree q.count (new_tree t phase.Unborn q.ty) ≡ fresh phase.Unborn f
  whole_new = object_new t phase.Unborn q.ty q.count f complete new.form

  slots_tree : (k : Bool) (l : List SlotView) → on.is_opaque q.birth ≡ k → b.kept ≡ not k → NewSlots q.birth f l → (if b.kept then picture f (slots_seen path l) else fresh (phase_of b) f) ≡ fresh phase.Unborn f
  slots_tree false l o e n =
      let s = n o path in
      ap (λ k. if k then picture f (slots_seen path l) else fresh (phase_of b) f) e ∙ (stands f (fresh phase.Unborn f) (slots_seen path l) s.fits s.seen).1
  slots_tree true l o e n = ap (λ k. if k then picture f (slots_seen path l) else fresh (phase_of b) f) e ∙ ap (λ k. fresh (if k then phase.Ended else phase.Unborn) f) new.living

  pub new_is : object_in path ds b ≡ new_object t q
  new_is =
      let tr = slots_tree (on.is_opaque q.birth) b.slots.items refl new.kept new.slots ∙ sym whole_new in
      ap (λ x. record (object_in path ds b) { ty = x }) new.same_ty
      ∙ ap (λ x. record (object_in path ds b) { ty = q.ty; count = x }) new.same_length
      ∙ ap (λ x. record (object_in path ds b) { ty = q.ty; count = q.count; kind = x }) new.same_kind
      ∙ ap (λ x. record (object_in path ds b) { ty = q.ty; count = q.count; kind = q.kind; konst = x }) new.same_konst
      ∙ ap (λ x. record (object_in path ds b) { ty = q.ty; count = q.count; kind = q.kind; konst = q.konst; birth = x }) new.same_birth
      ∙ ap (λ x. record (object_in path ds b) { ty = q.ty; count = q.count; kind = q.kind; konst = q.konst; birth = q.birth; released = x }) new.living
      ∙ ap (λ x. record (object_in path ds b) { ty = q.ty; count = q.count; kind = q.kind; konst = q.konst; birth = q.birth; released = false; counted = x }) new.counted
      ∙ ap (λ x. record { ty = q.ty; count = q.count; kind = q.kind; konst = q.konst; birth = q.birth; released = false; counted = counts.counts q.kind q.birth; tree = x }) tr

  kept_told : (k : Bool) → on.is_opaque q.birth ≡ k → b.kept ≡ true → k ≡ false
  kept_told false o e = refl
  kept_told true o e = let w = new.kept ∙ ap not o in absurd (cc)

  told_kept : (k r : Bool) → on.is_opaque b.birth ≡ k → not (k || r) ≡ true → not k ≡ true
  told_kept false r o e = refl
  told_kept true r o e = absurd (cc)

  pub new_fits : BlockFits t path ds b
  new_fits = record {
    form = ap (λ x. object_form t x b.length) new.same_ty ∙ ap (object_form t q.ty) new.same_length ∙ new.form;
    stands = λ e.
        let s = new.slots (kept_told (on.is_opaque q.birth) refl e) path in
        (stands f (fresh phase.Unborn f) (slots_seen path b.slots.items) s.fits s.seen).0;
    live = λ e. new.living;
    told = λ e. new.kept ∙ ap (λ x. not (on.is_opaque x)) (sym new.same_birth) ∙ told_kept (on.is_opaque b.birth) b.released refl e;
    cells = new.cells ∙ sym (ap (λ x. unwrap_or x 1 * unwrap_or (asked cells_of t (OfType b.ty)) 0) new.same_length ∙ ap (λ (x : TypeId). unwrap_or q.count 1 * unwrap_or (asked cells_of t (OfType x)) 0) new.same_ty);
  }

-- descriptors that are added, and blocks behind others, leave what was

module _ (t : Tables) (sound : Sound t) (ds new_ds : List Descriptor) (bs : List Block) (live : ℕ) (fits : Fits t ds bs live) (known : AllKnown ds bs) (grown : Grown t ds new_ds) (ms : List ℕ) where
  abbrev Old : Path → Type 0
  Old x = x.object < length bs

  abbrev later : Place → Path
  later = path_in new_ds (descs_in bs ++ ms)

  pub path_stays : (at : Place) → at.block < length bs → later at ≡ paths_in ds bs at
  path_stays at l =
      let b = get_at bs at.block l in
      let n : slice_get (descs_in bs) at.block ≡ Some b.0.desc = get_map (λ (b : Block). b.desc) bs at.block ∙ ap (option_map (λ (b : Block). b.desc)) b.1 in
      let f : form_at new_ds b.0.desc ≡ form_at ds b.0.desc = ap (λ l. form_at l b.0.desc) grown.behind ∙ form_added ds grown.more b.0.desc (known at.block b.0 b.1) in
      ap (λ us. record { object = at.block; steps = us; past = at.past })
      (ap (λ o. path_steps new_ds o at) (slice_get-more (descs_in bs) ms at.block b.0.desc n) ∙ ap (λ f. steps_to f at) f ∙ sym (ap (λ o. path_steps ds o at) n))

  alike : (at : Place) → Old (paths_in ds bs at) → paths_in ds bs at ≡ later at
  alike at l = sym (path_stays at l)

  form_stays : (n : ℕ) (b : Block) → slice_get bs n ≡ Some b → form_at ds b.desc ≡ form_at new_ds b.desc
  form_stays n b e = sym (ap (λ l. form_at l b.desc) grown.behind ∙ form_added ds grown.more b.desc (known n b e))

  pub old_objects : map (object_in later new_ds) bs ≡ objects_in ds bs
  old_objects = map_same (object_in later new_ds) (object_in (paths_in ds bs) ds) bs (λ n b e. sym (object_same (paths_in ds bs) later Old alike ds new_ds b (form_stays n b e) (held_within t sound ds bs live fits n b e)))

  pub old_fits : (n : ℕ) (b : Block) → slice_get bs n ≡ Some b → BlockFits t later new_ds b
  old_fits n b e = refit (paths_in ds bs) later Old alike ds new_ds b (form_stays n b e) (held_within t sound ds bs live fits n b e) t (fits.each n b e)

  pub still_known : AllKnown new_ds bs
  still_known n b e =
      let l = known n b e in
      subst (λ k. b.desc < length k) (sym grown.behind) (more ds grown.more b.desc l)
    where
      more : {A : Type 0} (xs ys : List A) (i : ℕ) → i < length xs → i < length (xs ++ ys)
      more xs ys i l = let x = get_at xs i l in get_within (xs ++ ys) i x.0 (slice_get-more xs ys i x.0 x.1)

append_none : {A : Type 0} (xs : List A) → xs ++ [] ≡ xs
append_none [] = refl
append_none (x ∷ xs) = ap (λ l. x ∷ l) (append_none xs)

-- nothing is made
module _ (t : Tables) (sound : Sound t) (ds new_ds : List Descriptor) (bs : List Block) (live : ℕ) (fits : Fits t ds bs live) (known : AllKnown ds bs) (grown : Grown t ds new_ds) where
  no_more : path_in new_ds (descs_in bs ++ []) ≡ paths_in new_ds bs
  no_more = ap (path_in new_ds) (append_none (descs_in bs))

  pub same_objects : objects_in new_ds bs ≡ objects_in ds bs
  same_objects = ap (λ (p : Place → Path). map (object_in p new_ds) bs) (sym no_more) ∙ old_objects t sound ds new_ds bs live fits known grown []

  pub same_paths : KeepsPaths (objects_in ds bs) (paths_in ds bs) (paths_in new_ds bs)
  same_paths at l = ap (λ (p : Place → Path). p at) (sym no_more) ∙ path_stays t sound ds new_ds bs live fits known grown [] at (subst (λ n. at.block < n) (as_many ds bs) l)

  pub same_fits : Fits t new_ds bs live
  same_fits = record {
    fit = subst (Fit t) (sym same_objects) fits.fit;
    descriptors = grown.are_of;
    each = λ n b e. subst (λ (p : Place → Path). BlockFits t p new_ds b) no_more (old_fits t sound ds new_ds bs live fits known grown [] n b e);
    count = fits.count;
  }

-- one more block
module _ (t : Tables) (sound : Sound t) (ds new_ds : List Descriptor) (bs : List Block) (live : ℕ) (fits : Fits t ds bs live) (known : AllKnown ds bs) (grown : Grown t ds new_ds) (q : counts.Request) (b : Block) (new : IsNew t new_ds q b) (complete : is_complete t q.ty ≡ true) where
  abbrev more : List Block
  more = bs ++ b ∷ []

  one_more : path_in new_ds (descs_in bs ++ b.desc ∷ []) ≡ paths_in new_ds more
  one_more = ap (path_in new_ds) (sym (map_more (λ (b : Block). b.desc) bs (b ∷ [])))

  pub objects_push : objects_in new_ds more ≡ objects_in ds bs ++ new_object t q ∷ []
  objects_push =
      map_more (object_in (paths_in new_ds more) new_ds) bs (b ∷ [])
      ∙ ap (λ l. l ++ object_in (paths_in new_ds more) new_ds b ∷ []) (ap (λ (p : Place → Path). map (object_in p new_ds) bs) (sym one_more) ∙ old_objects t sound ds new_ds bs live fits known grown (b.desc ∷ []))
      ∙ ap (λ o. objects_in ds bs ++ o ∷ []) (new_is t (paths_in new_ds more) new_ds q b new complete)

  pub paths_push : KeepsPaths (objects_in ds bs) (paths_in ds bs) (paths_in new_ds more)
  paths_push at l = ap (λ (p : Place → Path). p at) (sym one_more) ∙ path_stays t sound ds new_ds bs live fits known grown (b.desc ∷ []) at (subst (λ n. at.block < n) (as_many ds bs) l)

  pub known_push : AllKnown new_ds more
  known_push n x e = elim (slice_get-push bs b n x e) as (λ _. x.desc < length new_ds) [
    | inl h ↦ still_known t sound ds new_ds bs live fits known grown [] n x h
    | inr h ↦ subst (λ (y : Block). y.desc < length new_ds) (sym h.1) new.known
  ]

  pub place_push : paths_in new_ds more (record { block = length bs; slot = 0; node = 0; past = false }) ≡ next_place (objects_in ds bs)
  place_push = whole_path new_ds more (length bs) b (slice_get-last bs b) ∙ ap (λ n. record { object = n; steps = []; past = false }) (sym (as_many ds bs))

  module _ (limits : Limits) (ok : counts.make t limits (objects_in ds bs) q ≡ Ok (objects_in ds bs ++ new_object t q ∷ [])) where
    pub fits_push : (after : ℕ) → after ≡ live + live_in b → Fits t new_ds more after
    fits_push after e = record {
      fit = subst (Fit t) (sym objects_push) (Fit-make t limits (objects_in ds bs) (objects_in ds bs ++ new_object t q ∷ []) q fits.fit complete ok);
      descriptors = grown.are_of;
      each = λ n x g. elim (slice_get-push bs b n x g) as (λ _. BlockFits t (paths_in new_ds more) new_ds x) [
        | inl h ↦ subst (λ (p : Place → Path). BlockFits t p new_ds x) one_more (old_fits t sound ds new_ds bs live fits known grown (b.desc ∷ []) n x h)
        | inr h ↦ subst (BlockFits t (paths_in new_ds more) new_ds) (sym h.1) (new_fits t (paths_in new_ds more) new_ds q b new complete)
      ];
      count = e ∙ ap (λ k. k + live_in b) fits.count ∙ sym (ap sum (map_more live_in bs (b ∷ [])) ∙ sum-push (map live_in bs) (live_in b));
    }

    pub place_known : Knows t (objects_in new_ds more) (paths_in new_ds more (record { block = length bs; slot = 0; node = 0; past = false }))
    place_known =
        subst (λ os. Knows t os (paths_in new_ds more (record { block = length bs; slot = 0; node = 0; past = false }))) (sym objects_push)
        (subst (Knows t (objects_in ds bs ++ new_object t q ∷ [])) (sym place_push) (next_place-knows t limits (objects_in ds bs) (objects_in ds bs ++ new_object t q ∷ []) q (complete_known t q.ty complete) ok))

-- what the making of a block gives

module _ (t : Tables) (sound : Sound t) (ds new_ds : List Descriptor) (bs new_bs : List Block) (live new_live : ℕ) (fits : Fits t ds bs live) (known : AllKnown ds bs) where
  module _ (n : NotAdded t ds new_ds bs new_bs live new_live) where
    pub not_objects : objects_in new_ds new_bs ≡ objects_in ds bs
    not_objects = ap (objects_in new_ds) n.blocks ∙ same_objects t sound ds new_ds bs live fits known n.grown

    pub not_paths : KeepsPaths (objects_in ds bs) (paths_in ds bs) (paths_in new_ds new_bs)
    not_paths at l = ap (λ (z : List Block). paths_in new_ds z at) n.blocks ∙ same_paths t sound ds new_ds bs live fits known n.grown at l

    pub not_fits : Fits t new_ds new_bs new_live
    not_fits = subst (λ (z : List Block). Fits t new_ds z new_live) (sym n.blocks) (subst (Fits t new_ds bs) (sym n.lives) (same_fits t sound ds new_ds bs live fits known n.grown))

  module _ (q : counts.Request) (at : Place) (a : Added t q ds new_ds bs new_bs live new_live at) (complete : is_complete t q.ty ≡ true) where
    pub made_paths : KeepsPaths (objects_in ds bs) (paths_in ds bs) (paths_in new_ds new_bs)
    made_paths p l = ap (λ (z : List Block). paths_in new_ds z p) a.blocks ∙ paths_push t sound ds new_ds bs live fits known a.grown q a.block a.is_new complete p l

    module _ (limits : Limits) (ok : find (passes_limit t limits (objects_in ds bs) (new_object t q)) limit_order ≡ None) where
      makes : counts.make t limits (objects_in ds bs) q ≡ Ok (objects_in ds bs ++ new_object t q ∷ [])
      makes = make_ok t limits (objects_in ds bs) q ok

      pub made_is : (counts.make t limits (objects_in ds bs) q ≡ Ok (objects_in new_ds new_bs)) × (paths_in new_ds new_bs at ≡ next_place (objects_in ds bs))
      made_is = (
        makes ∙ ap Ok (sym (ap (objects_in new_ds) a.blocks ∙ objects_push t sound ds new_ds bs live fits known a.grown q a.block a.is_new complete)),
        ap (λ (z : List Block). paths_in new_ds z at) a.blocks ∙ ap (paths_in new_ds (bs ++ a.block ∷ [])) a.place ∙ place_push t sound ds new_ds bs live fits known a.grown q a.block a.is_new complete,
      )

      pub made_fits : Fits t new_ds new_bs new_live
      made_fits = subst (λ (z : List Block). Fits t new_ds z new_live) (sym a.blocks) (fits_push t sound ds new_ds bs live fits known a.grown q a.block a.is_new complete limits makes new_live a.lives)

      pub made_known : Knows t (objects_in new_ds new_bs) (paths_in new_ds new_bs at)
      made_known =
          subst (λ (z : List Block). Knows t (objects_in new_ds z) (paths_in new_ds z at)) (sym a.blocks)
          (subst (λ (p : Place). Knows t (objects_in new_ds (bs ++ a.block ∷ [])) (paths_in new_ds (bs ++ a.block ∷ []) p)) (sym a.place) (place_known t sound ds new_ds bs live fits known a.grown q a.block a.is_new complete limits makes))
