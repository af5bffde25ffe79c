-- Records keep the shapes of their types where the types grow.
use Rattle.std.proofs.Common.{◌≡◌, ℕ, List, Some, ap, ◌∙◌, slice_get}
use Rattle.std.specs.Prelude.{option_map}
use Rattle.cx_type_defs.specs.Tables.{Tables, Grows}
use Rattle.cx_state.proofs.Growing.{root_row-grows, Fit-grows}
use Rattle.cx_state_kept.proofs.Reading.{cells_stay}
use Rattle.cx_shapes.proofs.Typing.{form_stays}
use Rattle.cx_records.specs.declared.record.Record.{Record}
use Rattle.cx_records.specs.Records.{record_form, forms_in, object_in, objects_of}
use Rattle.cx_records.specs.Fits.{RecordFits, Fits}
use Rattle.cx_records.proofs.Placed.{get_map}

record_grows : (t u : Tables) → Grows t u → (rs : List Record) (live : ℕ) → Fits t rs live → (n : ℕ) (r : Record) → slice_get rs n ≡ Some r → RecordFits u (object_in (forms_in rs) r) r
record_grows t u g rs live f n r e =
    let o = object_in (forms_in rs) r in
    let k = f.kept n r e in
    let here : slice_get (objects_of rs) n ≡ Some o = get_map (object_in (forms_in rs)) rs n ∙ ap (option_map (object_in (forms_in rs))) e in
    record {
      row = k.row;
      is_row = root_row-grows t u g o k.row k.is_row;
      form = form_stays t u g (record_form r) k.row.kind k.form;
      small = k.small;
      full = k.full;
      held = k.held;
      cells = cells_stay t u o g (f.fit n o here).complete ∙ k.cells;
    }

pub fits_grow : (t u : Tables) → Grows t u → (rs : List Record) (live : ℕ) → Fits t rs live → Fits u rs live
fits_grow t u g rs live f = record {
  fit = Fit-grows t u g (objects_of rs) f.fit;
  kept = record_grows t u g rs live f;
  count = f.count;
}
