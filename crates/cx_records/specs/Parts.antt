-- The parts of places.
use Rattle.std.specs.Prelude.{◌≡◌, ℕ, List, Some, slice_get}
use Rattle.cx_type_defs.specs.declared.ids.Step.{Step}
use Rattle.cx_shapes.specs.Forms.{Form, Row, Part, part_of, Stands}
use Rattle.cx_records.specs.declared.place.Place.{Place}
use Rattle.cx_records.specs.declared.place.End.TheVariants as end
use Rattle.cx_records.specs.declared.record.Record.{Record}
use Rattle.cx_records.specs.Records.{record_form}

-- the place is of an object with such a part
pub record IsPartAt (rs : List Record) (p : Place) (s : Step) : Type 0 where
  pub rec : Record
  pub is_rec : slice_get rs p.object ≡ Some rec
  pub is_at : p.end ≡ end.At
  pub form : Form
  pub stands : Stands (record_form rec) p.part form
  pub found : Part
  pub is_part : part_of form s ≡ Some found

-- how many elements there are
abbrev pub row_count : Form → ℕ
row_count (Row n f) = n
row_count f = 0
