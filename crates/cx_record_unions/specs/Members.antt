-- A member of a union as it is made active ([class.union]).
use Rattle.std.specs.Prelude.{◌≡◌, ℕ, ◌+◌, ◌<◌, ◌≤◌, Bool, true, false, ◌&&◌, not, List, Some, slice_get}
use Rattle.cx_type_defs.specs.declared.ids.Step.TheVariants as step
use Rattle.cx_state.specs.declared.kind.Phase.{Phase}
use Rattle.cx_state.specs.declared.kind.Phase.TheVariants as phase
use Rattle.cx_shapes.specs.Forms.{Form, Class, Part, part_of, size}
use Rattle.cx_shapes.specs.Contents.{Cell, fresh, is_member}
use Rattle.cx_records.specs.declared.place.Place.{Place}
use Rattle.cx_records.specs.declared.record.Content.TheVariants as content
use Rattle.cx_records.specs.declared.record.Contents.{Contents}
use Rattle.cx_records.specs.declared.record.Record.{Record}
use Rattle.cx_records.specs.Records.{cells_of}
use Rattle.cx_records.specs.Fits.{IsFull}
use Rattle.cx_records.specs.Checks.{cells_in, StandsAt}
use Rattle.cx_records.specs.Writes.{HasRoom, Puts}
use Rattle.cx_record_unions.specs.declared.target.Target.{Target}

-- a class whose lifetime has ended
abbrev pub is_ended_phase : Phase → Bool
is_ended_phase phase.Ended = true
is_ended_phase p = false

abbrev pub is_ended_class : Form → Cell → Bool
is_ended_class (Class bs ms) c = is_ended_phase c.phase
is_ended_class f c = false

-- the numbers of the member's parts, and whether it is active and stays as it is
pub record IsTarget (rs : List Record) (p : Place) (m : ℕ) (x : Target) : Type 0 where
  pub form : Form
  pub there : Bool
  pub dead : Bool
  pub stands : StandsAt rs p form there dead
  pub found : Part
  pub is_part : part_of form (step.Field m) ≡ Some found
  pub is_from : x.from ≡ p.part + found.0
  pub is_to : x.to ≡ p.part + found.0 + size found.1
  pub is_kept : x.stays ≡ (is_member m (cells_in rs stands.rec p.part).member && not (is_ended_class found.1 (cells_in rs stands.rec (p.part + found.0))))

-- there are contents with all numbers below
pub record HasRooms (n : ℕ) (c : Contents) : Type 0 where
  pub room : (j : ℕ) → j < n → HasRoom j c

pub record HasRoomsAt (rs : List Record) (p : Place) (n : ℕ) : Type 0 where
  pub rec : Record
  pub is_rec : slice_get rs p.object ≡ Some rec
  pub rooms : HasRooms n rec.contents

-- each cell from one number to before another is new, and no other has changed
pub record Cleared (from to : ℕ) (p : Phase) (old new : Contents) : Type 0 where
  pub within : (fs : List Form) (j : ℕ) → from ≤ j → j < to → cells_of fs new j ≡ fresh p
  pub before : (fs : List Form) (j : ℕ) → j < from → cells_of fs new j ≡ cells_of fs old j
  pub behind : (fs : List Form) (j : ℕ) → to ≤ j → cells_of fs new j ≡ cells_of fs old j
  pub full : (f : Form) → IsFull f old → IsFull f new
  pub room : (j : ℕ) → HasRoom j old → HasRoom j new

-- the cells of a member are new, and then it is made the active one of the union with that number
pub record Renewed (number from to m : ℕ) (p : Phase) (old new : Contents) : Type 0 where
  pub between : Contents
  pub cleared : Cleared from to p old between
  pub put : Puts number (content.Member m) between new
