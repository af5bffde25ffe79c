-- The arrays that places are in, by the numbers of their parts ([expr.add]).
use Rattle.std.specs.Prelude.{◌≡◌, ℕ, ◌+◌, ◌≤◌, ◌==◌, Bool, true, false, ◌&&◌, List, [], ◌∷◌, ◌++◌, Option, None, Some, slice_get, if◌then◌else◌}
use Rattle.cx_type_defs.specs.declared.ids.Step.{Step}
use Rattle.cx_type_defs.specs.declared.ids.Step.TheVariants as step
use Rattle.cx_state.specs.Objects.{same_bool}
use Rattle.cx_state.specs.Places.{Spot, spot}
use Rattle.cx_shapes.specs.Forms.{Form, Row, Part, part_of, below_of}
use Rattle.cx_records.specs.declared.place.End.{End}
use Rattle.cx_records.specs.declared.place.End.TheVariants as end
use Rattle.cx_records.specs.declared.place.Place.{Place}
use Rattle.cx_records.specs.declared.record.Record.{Record}
use Rattle.cx_records.specs.Records.{steps_of, is_past, record_form, forms_in, path_in}
use Rattle.cx_record_pointers.specs.declared.seat.Seat.{Seat}

-- an array of so many elements, or a part that counts as one of one
abbrev pub Holds : Bool → Form → ℕ → Type 0
Holds true f n = (g : Form) × (f ≡ Row n g)
Holds false f n = n ≡ 1

-- the array of the spot has that number, counted from a form with number b, and so many elements
pub record IsSeat (f : Form) (b : ℕ) (x : Spot) (s : Seat) : Type 0 where
  pub form : Form
  pub from : ℕ
  pub leads : below_of f x.array ≡ Some (from, form)
  pub is_array : s.array ≡ b + from
  pub is_many : s.many ≡ x.many
  pub is_index : s.index ≡ x.index
  pub holds : Holds x.many form s.count
  pub within : s.index ≤ s.count

-- an element's index, where its step is the last one
abbrev pub element_index : Step → Bool → Option ℕ
element_index (step.Elem i) true = Some i
element_index s is_last = None

-- a step to a part with number n leads to a place with number j, and not to one past the elements of an array
abbrev pub ends_here : End → ℕ → ℕ → Bool
ends_here end.Last j n = false
ends_here e j n = j == n

abbrev pub same_seat : Seat → Seat → Bool
same_seat s u = same_bool s.many u.many && (s.array == u.array)

-- the same of a place of a record
pub record IsSeatAt (rs : List Record) (p : Place) (s : Seat) : Type 0 where
  pub rec : Record
  pub is_rec : slice_get rs p.object ≡ Some rec
  pub seat : IsSeat (record_form rec) 0 (spot (path_in (forms_in rs) p)) s

-- both are in one array
abbrev pub in_one : Place → Seat → Place → Seat → Bool
in_one p s q u = (p.object == q.object) && same_seat s u

-- the steps to the place with an index in the array of a spot
abbrev pub steps_to : Spot → ℕ → List Step
steps_to x i = if x.many then x.array ++ step.Elem i ∷ [] else x.array

-- the place with that index, of so many
pub record IsPlaced (f : Form) (o : ℕ) (x : Spot) (n i : ℕ) (p : Place) : Type 0 where
  pub is_object : p.object ≡ o
  pub are_steps : steps_of p f ≡ Some (steps_to x i)
  pub is_past : is_past p.end ≡ (i == n)

-- the part with that number has an element with that index
pub record HasElement (f : Form) (a i : ℕ) : Type 0 where
  pub form : Form
  pub steps : List Step
  pub leads : below_of f steps ≡ Some (a, form)
  pub found : Part
  pub is_part : part_of form (step.Elem i) ≡ Some found

-- a part that is no element, at index 0, and the place past it
abbrev pub one_place : ℕ → ℕ → ℕ → Place
one_place o j i = record { object = o; part = j; end = if i == 0 then end.At else end.Past }
