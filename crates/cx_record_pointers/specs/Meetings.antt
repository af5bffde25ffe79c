-- How two parts lie to each other ([expr.rel], [expr.eq]).
use Rattle.std.specs.Prelude.{◌≡◌, ℕ, ◌==◌, Bool, true, false, ◌&&◌, List, [], ◌∷◌, Option, None, option_map, option_and_then, unwrap_or, if◌then◌else◌}
use Rattle.cx_type_defs.specs.declared.ids.Step.{Step}
use Rattle.cx_type_defs.specs.Tables.{Tables}
use Rattle.cx_state.specs.Objects.{Path, Objects, same_step}
use Rattle.cx_state.specs.Pointers.{step_before, are_members, part_before, parts_at, in_two_members}
use Rattle.cx_state.specs.Pointers as pointers
use Rattle.cx_shapes.specs.Forms.{Form, Union, Part, part_of}
use Rattle.cx_record_pointers.specs.declared.meet.Meeting.{Meeting}
use Rattle.cx_record_pointers.specs.declared.meet.Meeting.TheVariants as meeting

abbrev pub is_union : Form → Bool
is_union (Union ms) = true
is_union f = false

-- how the parts at the ends of two lists of steps lie to each other
abbrev pub meeting_of : Form → List Step → List Step → Meeting
meeting_of f [] [] = meeting.Same
meeting_of f [] (u ∷ us) = meeting.Within
meeting_of f (s ∷ ss) [] = meeting.Within
meeting_of f (s ∷ ss) (u ∷ us) = if same_step s u then unwrap_or (option_map (λ (p : Part). meeting_of p.1 ss us) (part_of f s)) meeting.Same else meeting.Apart (is_union f) s u

-- the same of two numbers one of which is 0
abbrev pub ends_of : ℕ → ℕ → Meeting
ends_of a b = if a == b then meeting.Same else meeting.Within

abbrev pub before_of : Meeting → Option Bool
before_of (meeting.Apart in_union s u) = step_before in_union s u
before_of m = None

abbrev pub in_members : Meeting → Bool
in_members (meeting.Apart in_union s u) = in_union && are_members s u
in_members m = false

abbrev pub is_within : Meeting → Bool
is_within meeting.Within = true
is_within m = false

-- what the types along two paths say of their parts
pub record Met (t : Tables) (os : Objects) (p q : Path) (m : Meeting) : Type 0 where
  pub is_before : before_of m ≡ option_and_then (part_before t) (parts_at t os p q)
  pub in_members : in_members m ≡ in_two_members t os p q
  pub within : is_within m ≡ pointers.is_within p q
