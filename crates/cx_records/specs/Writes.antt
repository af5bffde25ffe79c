-- What a write changes.
use Rattle.std.specs.Prelude.{◌≡◌, ℕ, ◌-◌, ◌<◌, if◌then◌else◌, true, List, length, Some, slice_get, slice_set}
use Rattle.cx_state.specs.declared.kind.Phase.TheVariants as phase
use Rattle.cx_shapes.specs.Forms.{Form}
use Rattle.cx_shapes.specs.Contents.{with_cell}
use Rattle.cx_records.specs.declared.place.Place.{Place}
use Rattle.cx_records.specs.declared.record.Content.{Content}
use Rattle.cx_records.specs.declared.record.Contents.{Contents}
use Rattle.cx_records.specs.declared.record.Contents.TheVariants as contents
use Rattle.cx_records.specs.declared.record.Record.{Record}
use Rattle.cx_records.specs.Records.{cell_of, cells_of}
use Rattle.cx_records.specs.Fits.{IsFull, is_each}

-- there is a content with that number
abbrev pub HasRoom : ℕ → Contents → Type 0
HasRoom k (contents.Same p) = ⊥
HasRoom k (contents.Each items) = k < length items.items

-- the cell with that number is another
pub record Puts (k : ℕ) (x : Content) (old new : Contents) : Type 0 where
  pub cells : (fs : List Form) (j : ℕ) → cells_of fs new j ≡ with_cell k (cell_of fs x) (cells_of fs old) j
  pub full : (f : Form) → IsFull f old → IsFull f new
  pub each : is_each new ≡ true
  pub room : (j : ℕ) → HasRoom j old → HasRoom j new

-- the record of a place, with other contents
pub record Rewritten (old new : List Record) (p : Place) (P : Contents → Contents → Type 0) : Type 0 where
  pub rec : Record
  pub is_rec : slice_get old p.object ≡ Some rec
  pub now : Contents
  pub is_new : new ≡ slice_set old p.object (record rec { contents = now })
  pub put : P rec.contents now

pub record HasRoomAt (rs : List Record) (p : Place) : Type 0 where
  pub rec : Record
  pub is_rec : slice_get rs p.object ≡ Some rec
  pub room : HasRoom p.part rec.contents

abbrev pub Written : List Record → List Record → Place → Content → Type 0
Written old new p x = Rewritten old new p (Puts p.part x)

abbrev pub cells_counted : Record → ℕ
cells_counted r = if r.counted then r.cells else 0

-- a record whose storage has ended, and its cells aren't live
pub record IsGivenUp (old : List Record) (before : ℕ) (new : List Record) (after : ℕ) (n : ℕ) : Type 0 where
  pub rec : Record
  pub is_rec : slice_get old n ≡ Some rec
  pub is_new : new ≡ slice_set old n (record rec { released = true; contents = contents.Same phase.Ended })
  pub is_live : after ≡ before - cells_counted rec
