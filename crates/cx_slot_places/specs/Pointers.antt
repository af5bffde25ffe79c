-- What pointer calls answer for places of one object, by its form alone ([expr.add], [expr.rel], [expr.eq]).
use Rattle.std.specs.Prelude.{◌≡◌, ℕ, nat_lt, Bool, true, false, ◌&&◌, ◌||◌, List, ◌∷◌, Option, None, Some, Result, Ok, Err, unwrap_or, slice_get, option_and_then, option_map, if◌then◌else◌, ℤ, pos, ◌-ℤ◌}
use Rattle.cx_base.specs.declared.rule.Rule.{Rule}
use Rattle.cx_base.specs.declared.rule.Rule.TheVariants as rule
use Rattle.cx_type_defs.specs.declared.ids.Step.{Step}
use Rattle.cx_type_defs.specs.Tables.{Tables}
use Rattle.cx_state.specs.Objects.{Path, Object, Objects, same_step, same_path}
use Rattle.cx_state.specs.Places.{Spot, spot}
use Rattle.cx_state.specs.Pointers.{moved, same_array, step_before, or_unspecified, apart_from_end, is_within, are_members}
use Rattle.cx_layout.specs.declared.place.Place.{Place}
use Rattle.cx_layout.specs.Forms.{Form, Row, Class, Part, part_of, below_of}
use Rattle.cx_layout.specs.TypeForms.{object_form}

-- the path of a place, where these are the steps to it
abbrev pub path_to : Place → List Step → Path
path_to at ss = record { object = at.block; steps = ss; past = at.past }

-- an object with this number, whose type has this form
pub record HasForm (t : Tables) (os : Objects) (number : ℕ) (f : Form) : Type 0 where
  pub object : Object
  pub is_there : slice_get os number ≡ Some object
  pub form_is : object_form t object.ty object.count ≡ Some f

-- how many elements there are in the array that a place is in
abbrev pub row_count : Form → ℕ
row_count (Row n f) = n
row_count f = 0

abbrev pub array_count : Form → Spot → ℕ
array_count f x = if x.many then unwrap_or (option_map (λ (p : Part). row_count p.form) (below_of f x.array)) 0 else 1

abbrev pub added : Form → Path → ℤ → Result Path Rule
added f p by = moved p (array_count f (spot p)) by

abbrev pub distance_of : Path → Path → Result ℤ Rule
distance_of p q = if same_array p q then Ok (pos (spot p).index -ℤ pos (spot q).index) else Err rule.PointerDistance

-- where two lists of steps part: whether that is in a union, and the two steps
pub record Parted : Type 0 where
  pub in_union : Bool
  pub left : Step
  pub right : Step

abbrev pub is_union : Form → Bool
is_union (Class c u bs ms) = u
is_union f = false

abbrev pub parted : Form → List Step → List Step → Option Parted
parted f (s ∷ ss) (u ∷ us) = if same_step s u then option_and_then (λ (p : Part). parted p.form ss us) (part_of f s) else Some (record { in_union = is_union f; left = s; right = u })
parted f _ _ = None

-- elements of an array by index, members of a class that isn't a union by declaration
abbrev pub comes_before : Parted → Option Bool
comes_before x = step_before x.in_union x.left x.right

abbrev pub less_of : Form → Path → Path → Result Bool Rule
less_of f p q =
    if same_array p q then Ok (nat_lt (spot p).index (spot q).index)
    else if p.past || q.past then Err rule.UnspecifiedCompare
    else or_unspecified (option_and_then comes_before (parted f p.steps q.steps))

-- two members of one union
abbrev pub are_in_union : Parted → Bool
are_in_union x = x.in_union && are_members x.left x.right

abbrev pub equal_of : Form → Path → Path → Result Bool Rule
equal_of f p q =
    if same_path p q then Ok true
    else if apart_from_end p q || apart_from_end q p || is_within p q || unwrap_or (option_map are_in_union (parted f p.steps q.steps)) false then Err rule.UnspecifiedCompare
    else Ok false
