-- A write to the slots of a block changes exactly what it changes of the object's tree.
use Rattle.std.proofs.Common.{◌≡◌, ℕ, Bool, true, false, ◌||◌, not, List, [], ◌∷◌, length, map, Option, None, Some, Ok, Err, refl, sym, ap, subst, ◌∙◌, slice_get, slice_set, arith, if◌then◌else◌, Vec, Global}
use Rattle.std.specs.Prelude.{Result, option_map}
use Rattle.cx_base.specs.declared.rule.Rule.{Rule}
use Rattle.cx_base.specs.declared.rule.Rule.TheVariants as rule
use Rattle.cx_type_defs.specs.Tables.{Tables}
use Rattle.cx_type_defs.specs.Sound.{Sound}
use Rattle.cx_state.specs.declared.kind.Birth.{Birth}
use Rattle.cx_state.specs.declared.kind.Birth.TheVariants as birth
use Rattle.cx_state.specs.Objects.{Path, Tree, Object, Objects, changed, put}
use Rattle.cx_state.specs.Places.{row_of}
use Rattle.cx_state.specs.Conditions as on
use Rattle.cx_state.specs.Steps.{Write, access_of, unless, write, written}
use Rattle.cx_state.specs.Forms.{Fit, Knows}
use Rattle.cx_state_kept.proofs.Keeping.{changed_or_not, write_keeps}
use Rattle.cx_store.specs.Stores.{Changed, StillKnows}
use Rattle.cx_layout.specs.declared.columns.Descriptor.{Descriptor}
use Rattle.cx_layout.specs.declared.place.Place.{Place}
use Rattle.cx_layout.specs.Forms.{Form}
use Rattle.cx_layout.specs.Described.{form_at}
use Rattle.cx_slots.specs.declared.slot.SlotView.{SlotView}
use Rattle.cx_slots.specs.Slots.{slots_seen}
use Rattle.cx_slots.specs.Flat.{Stands, picture}
use Rattle.cx_slots.specs.Fresh.{fresh}
use Rattle.cx_slots.proofs.Reading.{stands}
use Rattle.cx_slot_calls.specs.Rules.{Show, Writes}
use Rattle.cx_blocks.specs.declared.block.Block.{Block}
use Rattle.cx_blocks.specs.Bars.{barred}
use Rattle.cx_blocks.specs.Seen.{paths_in, phase_of, object_in, objects_in}
use Rattle.cx_blocks.specs.Fits.{AllKnown, BlockFits, Fits, live_of}
use Rattle.cx_blocks.proofs.Lists.{map_set, set_still}
use Rattle.cx_blocks.proofs.Objects.{the_object, paths_set, objects_set, live_set, known_set, fits_set}
use Rattle.cx_blocks.proofs.Wholes.{changed_err, changed_ok}
use Rattle.cx_blocks.proofs.Accesses.{barred_none, is_local, is_kept}

-- what a write leaves
pub record Wrote (t : Tables) (ds : List Descriptor) (bs new : List Block) (live : ℕ) (p : Path) (w : Write) (result : Result (Unit {0}) Rule) : Type 0 where
  pub changed : Changed (write t (objects_in ds bs) p w) (objects_in ds bs) (objects_in ds new) result
  pub fit : Fits t ds new live
  pub knows : StillKnows (objects_in ds bs) (objects_in ds new)
  pub paths : paths_in ds new ≡ paths_in ds bs
  pub all_known : AllKnown ds new

module _ (t : Tables) (ds : List Descriptor) (bs : List Block) (at : Place) (b : Block) (is_block : slice_get bs at.block ≡ Some b) (known : AllKnown ds bs) (live : ℕ) (fits : Fits t ds bs live) (open_to : barred b.released at.past (not (on.is_here b.birth)) rule.OutsideWrite ≡ None) where
  abbrev os : Objects
  os = objects_in ds bs

  abbrev p : Path
  p = paths_in ds bs at

  abbrev path : Place → Path
  path = paths_in ds bs

  abbrev o : Object
  o = object_in path ds b

  abbrev f : Form
  f = form_at ds b.desc

  pub alive : b.released ≡ false
  alive = (barred_none b.released at.past (not (on.is_here b.birth)) rule.OutsideWrite open_to).0

  pub inside : at.past ≡ false
  inside = (barred_none b.released at.past (not (on.is_here b.birth)) rule.OutsideWrite open_to).1

  pub local : b.birth ≡ birth.Here
  local = is_local b.birth (barred_none b.released at.past (not (on.is_here b.birth)) rule.OutsideWrite open_to).2

  pub told : on.is_opaque b.birth ≡ false
  told = ap on.is_opaque local

  kept : b.kept ≡ true
  kept = is_kept t ds bs at b is_block live fits alive told

  module _ (v : Vec SlotView Global) where
    abbrev now : Block
    now = record b { slots = v }

    abbrev new : List Block
    new = slice_set bs at.block now

    -- nothing changes
    same_object : v.items ≡ b.slots.items → object_in path ds now ≡ o
    same_object e = ap (λ l. record o { tree = if b.kept then picture f (slots_seen path l) else fresh (phase_of b) f }) e

    same_objects : v.items ≡ b.slots.items → objects_in ds new ≡ os
    same_objects e =
        ap (λ (q : Place → Path). map (object_in q ds) new) (paths_set ds bs at.block b now is_block refl)
        ∙ map_set (object_in path ds) bs at.block now ∙ ap (slice_set os at.block) (same_object e)
        ∙ set_still os at.block o (the_object ds bs at.block b is_block)

    same_fits : v.items ≡ b.slots.items → BlockFits t path ds now
    same_fits e =
        let h = fits.each at.block b is_block in
        record { form = h.form; stands = λ k. subst (λ l. Stands f (slots_seen path l)) (sym e) (h.stands k); live = h.live; told = h.told; cells = h.cells }

    -- the tree changes
    module _ (F : Tree → Tree) (show : Show path v.items f (changed F o.tree p.steps)) where
      new_object : object_in path ds now ≡ record o { tree = changed F o.tree p.steps }
      new_object =
          let s = stands f (changed F o.tree p.steps) (slots_seen path v.items) show.fits show.seen in
          ap (λ x. record o { tree = x }) (ap (λ k. if k then picture f (slots_seen path v.items) else fresh (phase_of b) f) kept ∙ s.1)

      new_objects : objects_in ds new ≡ put F os p
      new_objects = objects_set ds bs at.block b now is_block refl (λ (x : Object). record x { tree = changed F x.tree p.steps }) new_object

      new_fits : BlockFits t path ds now
      new_fits =
          let h = fits.each at.block b is_block in
          let s = stands f (changed F o.tree p.steps) (slots_seen path v.items) show.fits show.seen in
          record { form = h.form; stands = λ k. s.0; live = h.live; told = h.told; cells = h.cells }

    after : BlockFits t path ds now → Fit t (objects_in ds new) → Fits t ds new live
    after h g = fits_set ds bs at.block b now is_block refl t live live fits h g (fits.count ∙ sym (live_set ds bs at.block b now is_block refl refl))

    pub wrote : (F : Tree → Tree) (w : Write) (r : Option Rule) (k l : List SlotView) (result : Result (Unit {0}) Rule) (g : Form) → g ≡ f → k ≡ b.slots.items → v.items ≡ l → written t (row_of t os p) w ≡ F → on.broken t os p (access_of w) ≡ r
        → Writes path g o.tree p.steps F r k l result → ((ns : Objects) → write t os p w ≡ Ok ns → Fit t ns) → Wrote t ds bs new live p w result
    wrote F w (Some r) k l result g e was same is_F broken wr fit =
        let z : v.items ≡ b.slots.items = same ∙ wr.1 ∙ was in
        let c : Changed (write t os p w) os (objects_in ds new) result =
        subst (λ x. Changed (write t os p w) os (objects_in ds new) x) (sym wr.0) (subst (λ x. Changed (write t os p w) os x (Err r)) (sym (same_objects z)) (changed_err (on.broken t os p (access_of w)) r (put (written t (row_of t os p) w) os p) os broken)) in
        record {
          changed = c;
          fit = after (same_fits z) (subst (Fit t) (sym (same_objects z)) fits.fit);
          knows = changed_or_not (write t os p w) os (objects_in ds new) result (λ ns e. write_keeps t os ns p w e) c;
          paths = paths_set ds bs at.block b now is_block refl;
          all_known = known_set ds bs at.block b now is_block refl known;
        }
    wrote F w None k l result g e was same is_F broken wr fit =
        let show : Show path v.items f (changed F o.tree p.steps) = subst (λ m. Show path m f (changed F o.tree p.steps)) (sym same) (subst (λ x. Show path l x (changed F o.tree p.steps)) e wr.1) in
        let n : objects_in ds new ≡ put (written t (row_of t os p) w) os p = new_objects F show ∙ ap (λ (G : Tree → Tree). put G os p) (sym is_F) in
        let ok : write t os p w ≡ Ok (put (written t (row_of t os p) w) os p) = ap (λ x. unless x (put (written t (row_of t os p) w) os p)) broken in
        let c : Changed (write t os p w) os (objects_in ds new) result =
        subst (λ x. Changed (write t os p w) os (objects_in ds new) x) (sym wr.0) (changed_ok (on.broken t os p (access_of w)) (put (written t (row_of t os p) w) os p) os (objects_in ds new) broken n) in
        record {
          changed = c;
          fit = after (new_fits F show) (fit (objects_in ds new) (ok ∙ ap Ok (sym n)));
          knows = changed_or_not (write t os p w) os (objects_in ds new) result (λ ns e. write_keeps t os ns p w e) c;
          paths = paths_set ds bs at.block b now is_block refl;
          all_known = known_set ds bs at.block b now is_block refl known;
        }
