-- The places of an object, and the steps that lead to them ([basic.compound], [expr.add], [expr.static.cast]).
use Rattle.std.specs.Prelude.{◌≡◌, ℕ, ◌*◌, ◌==◌, nat_lt, Bool, true, false, List, [], ◌∷◌, ◌++◌, reverse, Option, None, Some, Result, Ok, Err, option_map, option_and_then, if◌then◌else◌}
use Rattle.std.specs.List.{find}
use Rattle.cx_base.specs.declared.rule.Rule.{Rule}
use Rattle.cx_base.specs.declared.rule.Rule.TheVariants as rule
use Rattle.cx_type_defs.specs.declared.ids.Step.{Step}
use Rattle.cx_type_defs.specs.declared.ids.Step.TheVariants as step
use Rattle.cx_type_defs.specs.declared.ids.ClassId.{ClassId}
use Rattle.cx_state.specs.Conditions.{enclosing}
use Rattle.cx_layout.specs.declared.place.Place.{Place}
use Rattle.cx_layout.specs.Forms.{Form, Row, Class, Part, cells, further, whole, part_of, below_of}

-- an element, or the place past the last one
abbrev pub is_index : Bool → ℕ → ℕ → Bool
is_index past i n = if past then i == n else nat_lt i n

-- what the last step leads to
abbrev pub last_of : Bool → Form → Step → Option Part
last_of past (Row n f) (step.Elem i) = if is_index past i n then Some (record { node = 1; slot = i * cells f; form = f }) else None
last_of past f s = part_of f s

-- What steps lead to: a part, or with the mark the place past it. The place past an array of n elements steps to element
-- n and has the mark; the place past any other part has that part's steps.
abbrev pub place_at : Form → Bool → List Step → Option Part
place_at f past [] = Some (whole f)
place_at f past (s ∷ []) = last_of past f s
place_at f past (s ∷ ss) = option_and_then (λ (p : Part). option_map (further p.node p.slot) (place_at p.form past ss)) (part_of f s)

abbrev pub placed : ℕ → Bool → Part → Place
placed block past p = record { block = block; slot = p.slot; node = p.node; past = past }

-- the steps lead to this place
abbrev pub Leads : Form → List Step → Place → Type 0
Leads f ss at = option_map (placed at.block at.past) (place_at f at.past ss) ≡ Some at

-- there is such a place
abbrev pub IsPlace : Form → Place → Type 0
IsPlace f at = (ss : List Step) × Leads f ss at

abbrev pub or_else : {A : Type 0} → Option A → Option A → Option A
or_else (Some a) b = Some a
or_else None b = b

-- the place at the end of steps; none where they don't fit the form
abbrev pub place_of : Form → ℕ → List Step → Option Place
place_of f block ss = or_else (option_map (placed block false) (place_at f false ss)) (option_map (placed block true) (place_at f true ss))

-- one step more from a place: past an end there is none
abbrev pub OneStep : Form → Place → Step → Result Place Rule → Type 0
OneStep f at s (Ok to) = (at.past ≡ false) × ((ss : List Step) → Leads f ss at → place_of f at.block (ss ++ s ∷ []) ≡ Some to)
OneStep f at s (Err e) = (at.past ≡ true) × (e ≡ rule.PastEnd)

-- that step can be taken from the place
abbrev pub HasStep : Form → Place → Step → Type 0
HasStep f at s = (ss : List Step) × (to : Place) × Leads f ss at × (place_of f at.block (ss ++ s ∷ []) ≡ Some to)

-- the class at the end of steps, if there is one
abbrev pub form_class : Form → Option ClassId
form_class (Class c u bs ms) = Some c
form_class f = None

abbrev pub class_at : Form → List Step → Option ClassId
class_at f ss = option_and_then (λ (p : Part). form_class p.form) (below_of f ss)

abbrev pub is_class : ClassId → Option ClassId → Bool
is_class c None = false
is_class c (Some d) = d.0 == c.0

-- The steps to the nearest object of the class among what the steps lead to and what encloses it, through steps to a base
-- alone.
abbrev pub nearest : Form → ClassId → List Step → Option (List Step)
nearest f c ss = find (λ us. is_class c (class_at f us)) (reverse (enclosing ss))

abbrev pub or_down_cast : Option Place → Result Place Rule
or_down_cast (Some to) = Ok to
or_down_cast None = Err rule.DownCast

-- what is answered where the place of that object is asked for
abbrev pub outer_answer : Form → Place → ClassId → List Step → Result Place Rule
outer_answer f at c ss = if at.past then Err rule.PastEnd else or_down_cast (option_and_then (place_of f at.block) (nearest f c ss))
