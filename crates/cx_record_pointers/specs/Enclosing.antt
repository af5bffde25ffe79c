-- The objects that enclose a place through bases ([expr.static.cast], [class.derived]).
use Rattle.std.specs.Prelude.{◌≡◌, ℕ, ◌+◌, ◌==◌, Bool, List, Option, None, Some, slice_get, option_and_then, option_map, reverse, if◌then◌else◌}
use Rattle.std.specs.List.{list_any, find}
use Rattle.cx_type_defs.specs.declared.ids.Step.{Step}
use Rattle.cx_type_defs.specs.declared.ids.ClassId.{ClassId}
use Rattle.cx_type_defs.specs.declared.kind.TypeRow.{TypeRow}
use Rattle.cx_type_defs.specs.declared.kind.TypeKind.{TypeKind}
use Rattle.cx_type_defs.specs.Tables.{Tables}
use Rattle.cx_state.specs.Objects.{Path, Object}
use Rattle.cx_state.specs.Places.{row_below}
use Rattle.cx_state.specs.Conditions as on
use Rattle.cx_state.specs.Steps.{whole_path}
use Rattle.cx_shapes.specs.Forms.{Form, Part, below_of}
use Rattle.cx_records.specs.declared.place.Place.{Place}
use Rattle.cx_records.specs.declared.place.End.TheVariants as end
use Rattle.cx_records.specs.declared.record.Record.{Record}
use Rattle.cx_records.specs.Records.{forms_in, path_in, objects_of}
use Rattle.cx_record_pointers.specs.declared.enclose.Enclosing.{Enclosing}

-- a type is that class
abbrev pub is_class : ClassId → TypeKind → Bool
is_class c k = list_any (λ (d : ClassId). d.0 == c.0) (on.listed (on.class_of k))

-- so is the type that the steps lead to
abbrev pub is_class_below : Tables → TypeRow → ClassId → List Step → Bool
is_class_below t r c us = list_any (λ (d : ClassId). d.0 == c.0) (on.listed (option_and_then (λ (q : TypeRow). on.class_of q.kind) (row_below t r us)))

-- the nearest object of the class that encloses the end of the steps
abbrev pub nearest_in : Tables → TypeRow → ClassId → List Step → Option (List Step)
nearest_in t r c ss = find (is_class_below t r c) (reverse (on.enclosing ss))

-- the number, counted from b, is that of the part at the end of the steps
abbrev pub IsPart : Form → ℕ → Option ℕ → Option (List Step) → Type 0
IsPart f b (Some n) (Some us) = (p : Part) × (below_of f us ≡ Some p) × (n ≡ b + p.0)
IsPart f b None None = Unit {0}
IsPart f b n us = ⊥

pub record Encloses (t : Tables) (f : Form) (r : TypeRow) (b : ℕ) (c : ClassId) (ss : List Step) (e : Enclosing) : Type 0 where
  pub is_bases : e.bases ≡ on.all_bases ss
  pub is_nearest : IsPart f b e.nearest (nearest_in t r c ss)

abbrev pub or_here : Option ℕ → Bool → ℕ → Option ℕ
or_here (Some n) here b = Some n
or_here None here b = if here then Some b else None

-- the place of the nearest object of the class that encloses a place, which is past no end
abbrev pub outer_of : Tables → List Record → Path → ClassId → Option Path
outer_of t rs q c = option_and_then (λ (o : Object). option_map (whole_path q) (on.outer_in t o c q.steps)) (slice_get (objects_of rs) q.object)

abbrev pub IsNearest : Tables → List Record → Place → ClassId → Option Place → Type 0
IsNearest t rs p c found = p.end ≡ end.At → option_map (path_in (forms_in rs)) found ≡ outer_of t rs (path_in (forms_in rs) p) c
