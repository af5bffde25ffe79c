-- Release, birth, the cells that are live, and the blocks that stay where others are cut off.
use Rattle.std.proofs.Common.{◌≡◌, ℕ, zero, suc, ◌+◌, ◌-◌, ◌<◌, ◌≤◌, Bool, true, false, ◌&&◌, ◌||◌, not, List, [], ◌∷◌, length, map, take, sum, Option, None, Some, Ok, Err, refl, sym, ap, subst, ◌∙◌, slice_get, slice_set, arith, if◌then◌else◌}
use Rattle.std.specs.Prelude.{option_map, option_and_then}
use Rattle.std.specs.List.{find}
use Rattle.cx_base.specs.declared.rule.Rule.{Rule}
use Rattle.cx_base.specs.declared.rule.Rule.TheVariants as rule
use Rattle.cx_type_defs.specs.declared.ids.Step.{Step}
use Rattle.cx_type_defs.specs.Tables.{Tables, no_types, changed_at}
use Rattle.cx_type_defs.proofs.Lists.{some_inj}
use Rattle.cx_types.proofs.Totals.{sum-cons}
use Rattle.cx_state.specs.declared.kind.Birth.{Birth}
use Rattle.cx_state.specs.declared.kind.Birth.TheVariants as birth
use Rattle.cx_state.specs.declared.kind.Phase.{Phase}
use Rattle.cx_state.specs.declared.kind.Phase.TheVariants as phase
use Rattle.cx_state.specs.declared.kind.Scalar.TheVariants as scalar
use Rattle.cx_state.specs.Objects as tree
use Rattle.cx_state.specs.Objects.{Path, Tree, Object, Objects, below}
use Rattle.cx_state.specs.Conditions as on
use Rattle.cx_state.specs.Steps as steps
use Rattle.cx_state.specs.Counts.{cells_in, is_live, live_cells}
use Rattle.cx_state.specs.Forms.{Fit, HoldsBelow}
use Rattle.cx_state.proofs.EndedTrees.{Fit-release, Fit-settle, Fit-cut}
use Rattle.cx_store.specs.Stores.{Changed, IsHereAt, PathsBelow}
use Rattle.cx_layout.specs.declared.columns.Descriptor.{Descriptor}
use Rattle.cx_layout.specs.declared.place.Place.{Place}
use Rattle.cx_layout.specs.Forms.{Form}
use Rattle.cx_layout.specs.Described.{form_at}
use Rattle.cx_slots.specs.declared.slot.SlotView.{SlotView}
use Rattle.cx_slots.specs.Slots.{slots_seen}
use Rattle.cx_slots.specs.Flat.{picture}
use Rattle.cx_slots.specs.Fresh.{fresh}
use Rattle.cx_slots.proofs.Fresh.{fresh_fits}
use Rattle.cx_slots.proofs.Ended.{ended_fresh}
use Rattle.cx_blocks.specs.declared.block.Block.{Block}
use Rattle.cx_blocks.specs.Paths.{path_steps, path_in}
use Rattle.cx_blocks.specs.Seen.{descs_in, paths_in, phase_of, tree_in, object_in, objects_in}
use Rattle.cx_blocks.specs.Fits.{BlockFits, Fits, live_in, live_of}
use Rattle.cx_blocks.proofs.Lists.{get_map, get_take, take_within, map_set, map_take, map_same, sum_take, sum_less}
use Rattle.cx_blocks.proofs.Seeing.{picture_ended}
use Rattle.cx_blocks.proofs.Objects.{the_object, objects_set, paths_set, live_set, fits_set, object_same, refit}

-- what a step changes, or the rule that it breaks

pub changed_err : (b : Option Rule) (r : Rule) (os old : Objects) → b ≡ Some r → Changed (steps.unless b os) old old (Err r)
changed_err b r os old e = subst (λ x. Changed (steps.unless x os) old old (Err r)) (sym e) (refl, refl)

pub changed_ok : (b : Option Rule) (os old new : Objects) → b ≡ None → new ≡ os → Changed (steps.unless b os) old new (Ok tt)
changed_ok b os old new e h = subst (λ x. Changed (steps.unless x os) old new (Ok tt)) (sym e) (refl, h)

-- release

tree_ended : (f : Form) (path : Place → Path) (l : List SlotView) (k : Bool) (p : Phase) → steps.ended (if k then picture f (slots_seen path l) else fresh p f) ≡ fresh phase.Ended f
tree_ended f path l true p = picture_ended f (slots_seen path l)
tree_ended f path l false p = ended_fresh f (fresh p f) (fresh_fits p f)

-- its block
abbrev pub give_up : Block → Block → Block
give_up b now = record b { released = true; kept = false; slots = now.slots }

pub given_up_is : (path : Place → Path) (ds : List Descriptor) (b now : Block) → object_in path ds (give_up b now) ≡ steps.given_up (object_in path ds b)
given_up_is path ds b now = ap (λ x. record (object_in path ds b) { released = true; tree = x }) (sym (tree_ended (form_at ds b.desc) path b.slots.items b.kept (phase_of b)))

none_live : (b now : Block) → live_in (give_up b now) ≡ 0
none_live b now = go b.counted
  where
    go : (c : Bool) → (if c && false then b.cells else 0) ≡ 0
    go true = refl
    go false = refl

never : (a : Bool) → not (a || true) ≡ true → ⊥
never true e = cc
never false e = cc

module _ (ds : List Descriptor) (bs : List Block) (at : Place) (b now : Block) (is_block : slice_get bs at.block ≡ Some b) where
  abbrev pub left : List Block
  left = slice_set bs at.block (give_up b now)

  pub release_rule : on.broken no_types (objects_in ds bs) (paths_in ds bs at) on.Release ≡ (if b.released then Some rule.Dangling else None)
  release_rule = ap (option_and_then (λ (o : Object). find (on.holds no_types o (paths_in ds bs at) on.Release) (on.order on.Release))) (the_object ds bs at.block b is_block)

  pub release_refused : b.released ≡ true → Changed (steps.release (objects_in ds bs) (paths_in ds bs at)) (objects_in ds bs) (objects_in ds bs) (Err rule.Dangling)
  release_refused d =
      changed_err (on.broken no_types (objects_in ds bs) (paths_in ds bs at) on.Release) rule.Dangling (changed_at steps.given_up (objects_in ds bs) at.block) (objects_in ds bs)
      (release_rule ∙ ap (λ x. if x then Some rule.Dangling else None) d)

  pub released_objects : objects_in ds left ≡ changed_at steps.given_up (objects_in ds bs) at.block
  released_objects = objects_set ds bs at.block b (give_up b now) is_block refl steps.given_up (given_up_is (paths_in ds bs) ds b now)

  module _ (alive : b.released ≡ false) where
    no_rule : on.broken no_types (objects_in ds bs) (paths_in ds bs at) on.Release ≡ None
    no_rule = release_rule ∙ ap (λ x. if x then Some rule.Dangling else None) alive

    pub release_done : Changed (steps.release (objects_in ds bs) (paths_in ds bs at)) (objects_in ds bs) (objects_in ds left) (Ok tt)
    release_done = changed_ok (on.broken no_types (objects_in ds bs) (paths_in ds bs at) on.Release) (changed_at steps.given_up (objects_in ds bs) at.block) (objects_in ds bs) (objects_in ds left) no_rule released_objects

    pub release_ok : steps.release (objects_in ds bs) (paths_in ds bs at) ≡ Ok (objects_in ds left)
    release_ok = ap (λ o. steps.unless o (changed_at steps.given_up (objects_in ds bs) at.block)) no_rule ∙ ap Ok (sym released_objects)

    pub release_fits : (t : Tables) (live after : ℕ) → after ≡ live - live_in b → Fits t ds bs live → Fits t ds left after
    release_fits t live after l f =
        let h = f.each at.block b is_block in
        fits_set ds bs at.block b (give_up b now) is_block refl t live after f
        (record { form = h.form; stands = λ e. absurd (cc); live = λ e. absurd (cc); told = λ e. absurd (never (on.is_opaque b.birth) e); cells = h.cells })
        (Fit-release t (objects_in ds bs) (objects_in ds left) (paths_in ds bs at) f.fit release_ok)
        (l ∙ ap (λ k. k - live_in b) f.count
        ∙ sym (ap sum (map_set live_in bs at.block (give_up b now) ∙ ap (slice_set (map live_in bs) at.block) (none_live b now)) ∙ sum_less (map live_in bs) at.block (live_in b) (get_map live_in bs at.block ∙ ap (option_map live_in) is_block)))

-- birth

abbrev pub born : Birth → Block → Block
born x b = record b { birth = x }

module _ (ds : List Descriptor) (bs : List Block) (at : Place) (b : Block) (x : Birth) (is_block : slice_get bs at.block ≡ Some b) where
  pub settled_objects : objects_in ds (slice_set bs at.block (born x b)) ≡ changed_at (λ (o : Object). record o { birth = x }) (objects_in ds bs) at.block
  settled_objects = objects_set ds bs at.block b (born x b) is_block refl (λ (o : Object). record o { birth = x }) refl

  pub settled_fits : (t : Tables) (live : ℕ) → IsHereAt (objects_in ds bs) (paths_in ds bs at) → Fits t ds bs live → Fits t ds (slice_set bs at.block (born x b)) live
  settled_fits t live here f =
      let h = f.each at.block b is_block in
      let was : Some b.birth ≡ Some birth.Here = sym (ap (option_map (λ (o : Object). o.birth)) (the_object ds bs at.block b is_block)) ∙ here in
      let local : on.is_opaque b.birth ≡ false = ap on.is_opaque (some_inj b.birth birth.Here was) in
      fits_set ds bs at.block b (born x b) is_block refl t live live f
      (record { form = h.form; stands = h.stands; live = h.live; told = λ e. h.told (ap (λ y. not (y || b.released)) local ∙ second (on.is_opaque x) b.released e); cells = h.cells })
      (subst (Fit t) (sym settled_objects) (Fit-settle t (objects_in ds bs) (paths_in ds bs at) x f.fit))
      (f.count ∙ sym (live_set ds bs at.block b (born x b) is_block refl refl))
    where
      second : (a c : Bool) → not (a || c) ≡ true → not c ≡ true
      second true c e = absurd (cc)
      second false c e = e

-- the cells that are live

live_sum : (t : Tables) (path : Place → Path) (ds : List Descriptor) (bs : List Block) → ((n : ℕ) (b : Block) → slice_get bs n ≡ Some b → b.cells ≡ cells_in t (object_in path ds b)) → live_of bs ≡ live_cells t (map (object_in path ds) bs)
live_sum t path ds [] h = refl
live_sum t path ds (b ∷ bs) h =
    let o = object_in path ds b in
    sum-cons (live_in b) (map live_in bs)
    ∙ ap (λ n. (if b.counted && not b.released then n else 0) + live_of bs) (h 0 b refl)
    ∙ ap (λ n. (if is_live o then cells_in t o else 0) + n) (live_sum t path ds bs (λ n x e. h (suc n) x e))
    ∙ sym (sum-cons (if is_live o then cells_in t o else 0) (map (λ (o : Object). if is_live o then cells_in t o else 0) (map (object_in path ds) bs)))

pub live_cells_are : (t : Tables) (ds : List Descriptor) (bs : List Block) (live : ℕ) → Fits t ds bs live → live ≡ live_cells t (objects_in ds bs)
live_cells_are t ds bs live f = f.count ∙ live_sum t (paths_in ds bs) ds bs (λ n b e. (f.each n b e).cells)

-- cutting

path_below : (ds : List Descriptor) (ns : List ℕ) (m : ℕ) (at : Place) → at.block < m → path_in ds (take m ns) at ≡ path_in ds ns at
path_below ds ns m at l = ap (λ o. record { object = at.block; steps = path_steps ds o at; past = at.past }) (get_take ns m at.block l)

pub paths_cut : (ds : List Descriptor) (bs : List Block) (m : ℕ) → PathsBelow m (paths_in ds bs) (paths_in ds (take m bs))
paths_cut ds bs m at l = ap (λ ns. path_in ds ns at) (map_take (λ (b : Block). b.desc) m bs) ∙ path_below ds (descs_in bs) m at l

module _ (ds : List Descriptor) (bs : List Block) (m : ℕ) (free : HoldsBelow (objects_in ds bs) m) where
  abbrev Below : Path → Type 0
  Below x = x.object < m

  alike : (at : Place) → Below (paths_in ds bs at) → paths_in ds bs at ≡ paths_in ds (take m bs) at
  alike at l = sym (paths_cut ds bs m at l)

  was : (n : ℕ) (b : Block) → slice_get (take m bs) n ≡ Some b → slice_get bs n ≡ Some b
  was n b e = sym (get_take bs m n (take_within bs m n b e)) ∙ e

  holds : (n : ℕ) (b : Block) → slice_get (take m bs) n ≡ Some b → (ss : List Step) (x : Path) → below (object_in (paths_in ds bs) ds b).tree ss ≡ Some (tree.Leaf (scalar.Place x)) → Below x
  holds n b e ss x h = free.holds_below n (object_in (paths_in ds bs) ds b) ss x (take_within bs m n b e) (the_object ds bs n b (was n b e)) h

  pub objects_cut : objects_in ds (take m bs) ≡ take m (objects_in ds bs)
  objects_cut =
      map_same (object_in (paths_in ds (take m bs)) ds) (object_in (paths_in ds bs) ds) (take m bs) (λ n b e. sym (object_same (paths_in ds bs) (paths_in ds (take m bs)) Below alike ds ds b refl (holds n b e)))
      ∙ map_take (object_in (paths_in ds bs) ds) m bs

  pub fits_cut : (t : Tables) (live after : ℕ) → Fits t ds bs live → (live_of (take m bs) ≤ live → after ≡ live_of (take m bs)) → Fits t ds (take m bs) after
  fits_cut t live after f e =
      let c : live ≡ live_of bs = f.count in
      let a : live_of (take m bs) ≤ live_of bs = subst (λ z. sum z ≤ live_of bs) (sym (map_take live_in m bs)) (sum_take m (map live_in bs)) in
      record {
        fit = subst (Fit t) (sym objects_cut) (Fit-cut t (objects_in ds bs) m f.fit free);
        descriptors = f.descriptors;
        each = λ n b g. refit (paths_in ds bs) (paths_in ds (take m bs)) Below alike ds ds b refl (holds n b g) t (f.each n b (was n b g));
        count = e (omega arith);
      }

  pub known_cut : (k : (n : ℕ) (b : Block) → slice_get bs n ≡ Some b → b.desc < length ds) (n : ℕ) (b : Block) → slice_get (take m bs) n ≡ Some b → b.desc < length ds
  known_cut k n b e = k n b (was n b e)
