-- How records are seen: the paths of places, and the objects.
use Rattle.std.specs.Prelude.{ℕ, Bool, true, false, List, [], ◌∷◌, ◌++◌, map, Option, None, Some, slice_get, option_and_then, option_map, unwrap_or}
use Rattle.cx_type_defs.specs.declared.ids.Step.{Step}
use Rattle.cx_type_defs.specs.declared.ids.Step.TheVariants as step
use Rattle.cx_state.specs.declared.kind.Phase.TheVariants as phase
use Rattle.cx_state.specs.declared.kind.Scalar.TheVariants as scalar
use Rattle.cx_state.specs.Objects.{Path, Object, Objects}
use Rattle.cx_store.specs.Stores.{seen}
use Rattle.cx_shapes.specs.Forms.{Form, Row, Part, form_of, steps_at, below_of}
use Rattle.cx_shapes.specs.Contents.{Cell, Cells, fresh, tree_of}
use Rattle.cx_records.specs.declared.place.Place.{Place}
use Rattle.cx_records.specs.declared.place.End.{End}
use Rattle.cx_records.specs.declared.place.End.TheVariants as end
use Rattle.cx_records.specs.declared.record.Content.{Content}
use Rattle.cx_records.specs.declared.record.Content.TheVariants as content
use Rattle.cx_records.specs.declared.record.Contents.{Contents}
use Rattle.cx_records.specs.declared.record.Contents.TheVariants as contents
use Rattle.cx_records.specs.declared.record.Record.{Record}

-- paths

-- the steps to the place past an array's last element
abbrev pub end_steps : List Step → Part → Option (List Step)
end_steps ss (n, Row m f) = Some (ss ++ step.Elem m ∷ [])
end_steps ss (n, f) = None

abbrev pub marked : Form → End → List Step → Option (List Step)
marked f end.At ss = Some ss
marked f end.Past ss = Some ss
marked f end.Last ss = option_and_then (end_steps ss) (below_of f ss)

abbrev pub steps_of : Place → Form → Option (List Step)
steps_of p f = option_and_then (marked f p.end) (steps_at f p.part)

abbrev pub is_past : End → Bool
is_past end.At = false
is_past _ = true

-- steps that no object has: a base has no elements
abbrev pub nowhere : List Step
nowhere = step.Base 0 ∷ step.Elem 0 ∷ []

abbrev pub path_in : List Form → Place → Path
path_in fs p = record { object = p.object; steps = unwrap_or (option_and_then (steps_of p) (slice_get fs p.object)) nowhere; past = is_past p.end }

abbrev pub record_form : Record → Form
record_form r = form_of r.shape

abbrev pub forms_in : List Record → List Form
forms_in rs = map record_form rs

-- objects

abbrev pub cell_of : List Form → Content → Cell
cell_of fs (content.Value v) = record { value = seen (path_in fs) v; phase = phase.Unborn; member = None }
cell_of fs (content.Phase p) = fresh p
cell_of fs (content.Member m) = record { value = scalar.Indeterminate; phase = phase.Unborn; member = Some m }

abbrev pub cells_of : List Form → Contents → Cells
cells_of fs (contents.Same p) k = fresh p
cells_of fs (contents.Each items) k = unwrap_or (option_map (cell_of fs) (slice_get items.items k)) (fresh phase.Unborn)

-- what was put at a number
abbrev pub content_at : Contents → ℕ → Option Content
content_at (contents.Same p) k = None
content_at (contents.Each items) k = slice_get items.items k

abbrev pub object_in : List Form → Record → Object
object_in fs r = record { ty = r.ty; count = r.count; kind = r.kind; konst = r.konst; birth = r.birth; released = r.released; counted = r.counted; tree = tree_of (record_form r) (cells_of fs r.contents) 0 }

abbrev pub objects_of : List Record → Objects
objects_of rs = map (object_in (forms_in rs)) rs
