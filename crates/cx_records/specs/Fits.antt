-- That records have the shapes of their types.
use Rattle.std.specs.Prelude.{◌≡◌, ℕ, Bool, true, false, ◌&&◌, not, List, length, map, sum, Some, slice_get, if◌then◌else◌}
use Rattle.cx_type_defs.specs.declared.kind.TypeRow.{TypeRow}
use Rattle.cx_type_defs.specs.Tables.{Tables}
use Rattle.cx_state.specs.Objects.{Object}
use Rattle.cx_state.specs.Places.{root_row}
use Rattle.cx_state.specs.Counts.{cells_in}
use Rattle.cx_state.specs.Conditions.{is_here}
use Rattle.cx_state.specs.Forms.{Fit}
use Rattle.cx_shapes.specs.Forms.{Form, size, Small}
use Rattle.cx_shapes.specs.Kinds.{IsForm}
use Rattle.cx_records.specs.declared.record.Contents.{Contents}
use Rattle.cx_records.specs.declared.record.Contents.TheVariants as contents
use Rattle.cx_records.specs.declared.record.Record.{Record}
use Rattle.cx_records.specs.Records.{record_form, forms_in, object_in, objects_of}

-- there is a content for each part
abbrev pub IsFull : Form → Contents → Type 0
IsFull f (contents.Same p) = Unit {0}
IsFull f (contents.Each items) = length items.items ≡ size f

-- each part's content is kept where it may change
abbrev pub is_each : Contents → Bool
is_each (contents.Same p) = false
is_each (contents.Each items) = true

abbrev pub may_change : Record → Bool
may_change r = is_here r.birth && not r.released

pub record RecordFits (t : Tables) (o : Object) (r : Record) : Type 0 where
  pub row : TypeRow
  pub is_row : root_row t o ≡ Some row
  pub form : IsForm t (record_form r) row.kind
  pub small : Small (record_form r)
  pub full : IsFull (record_form r) r.contents
  pub held : may_change r ≡ true → is_each r.contents ≡ true
  pub cells : cells_in t o ≡ r.cells

-- the cells of the records that count
abbrev pub live_in : Record → ℕ
live_in r = if r.counted && not r.released then r.cells else 0

abbrev pub live_of : List Record → ℕ
live_of rs = sum (map live_in rs)

pub record Fits (t : Tables) (rs : List Record) (live : ℕ) : Type 0 where
  pub fit : Fit t (objects_of rs)
  pub kept : (n : ℕ) (r : Record) → slice_get rs n ≡ Some r → RecordFits t (object_in (forms_in rs) r) r
  pub count : live ≡ live_of rs
