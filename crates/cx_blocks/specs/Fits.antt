-- That blocks have the forms of their types, and slots that stand for trees of those forms.
use Rattle.std.specs.Prelude.{◌≡◌, ℕ, ◌*◌, ◌<◌, Bool, true, false, ◌&&◌, ◌||◌, not, List, length, map, sum, Some, slice_get, unwrap_or, if◌then◌else◌}
use Rattle.cx_type_defs.specs.Tables.{Tables}
use Rattle.cx_type_defs.specs.Questions.{OfType, asked, cells_of}
use Rattle.cx_state.specs.Objects.{Path}
use Rattle.cx_state.specs.Conditions.{is_opaque}
use Rattle.cx_state.specs.Forms.{Fit}
use Rattle.cx_layout.specs.declared.columns.Descriptor.{Descriptor}
use Rattle.cx_layout.specs.declared.place.Place.{Place}
use Rattle.cx_layout.specs.TypeForms.{object_form}
use Rattle.cx_layout.specs.Described.{AreOf, form_at}
use Rattle.cx_slots.specs.Slots.{slots_seen}
use Rattle.cx_slots.specs.Flat.{Stands}
use Rattle.cx_blocks.specs.declared.block.Block.{Block}
use Rattle.cx_blocks.specs.Seen.{paths_in, objects_in}

-- each has a descriptor that is there
abbrev pub AllKnown : List Descriptor → List Block → Type 0
AllKnown ds bs = (n : ℕ) (b : Block) → slice_get bs n ≡ Some b → b.desc < length ds

-- its slots are kept as long as they may be read
abbrev pub is_told : Block → Bool
is_told b = not (is_opaque b.birth || b.released)

pub record BlockFits (t : Tables) (path : Place → Path) (ds : List Descriptor) (b : Block) : Type 0 where
  pub form : object_form t b.ty b.length ≡ Some (form_at ds b.desc)
  pub stands : b.kept ≡ true → Stands (form_at ds b.desc) (slots_seen path b.slots.items)
  pub live : b.kept ≡ true → b.released ≡ false
  pub told : is_told b ≡ true → b.kept ≡ true
  pub cells : b.cells ≡ unwrap_or b.length 1 * unwrap_or (asked cells_of t (OfType b.ty)) 0

-- the cells of the blocks that count
abbrev pub live_in : Block → ℕ
live_in b = if b.counted && not b.released then b.cells else 0

abbrev pub live_of : List Block → ℕ
live_of bs = sum (map live_in bs)

pub record Fits (t : Tables) (ds : List Descriptor) (bs : List Block) (live : ℕ) : Type 0 where
  pub fit : Fit t (objects_in ds bs)
  pub descriptors : AreOf t ds
  pub each : (n : ℕ) (b : Block) → slice_get bs n ≡ Some b → BlockFits t (paths_in ds bs) ds b
  pub count : live ≡ live_of bs
