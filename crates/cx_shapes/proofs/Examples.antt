-- Worked cases: a class with a scalar and an array of three scalars.
use Rattle.std.proofs.Common.{◌≡◌, true, false, [], ◌∷◌, None, Some, refl}
use Rattle.cx_type_defs.specs.declared.ids.Step.TheVariants as step
use Rattle.cx_shapes.specs.Forms.{Form, Leaf, Row, Class, End, More, size, nodes, are_ends, start_at, part_of, way, steps_at}

abbrev row : Form
row = Row 3 Leaf

abbrev pair : Form
pair = Class End (More Leaf (More row End))

-- six parts: itself, the scalar, the array, its elements
parts : size pair ≡ 6
parts = refl

shapes_in_it : nodes pair ≡ 4
shapes_in_it = refl

-- the scalar ends behind one part, the array behind five
ends : are_ends 0 (Leaf ∷ row ∷ []) (1 ∷ 5 ∷ []) ≡ true
ends = refl

begins : start_at 0 (1 ∷ 5 ∷ []) 1 ≡ 1
begins = refl

not_ends : are_ends 0 (Leaf ∷ row ∷ []) (1 ∷ 4 ∷ []) ≡ false
not_ends = refl

one_end_too_few : are_ends 0 (Leaf ∷ row ∷ []) (1 ∷ []) ≡ false
one_end_too_few = refl

-- the last part is in the array, and behind it there is none
last : way pair 4 ≡ Some (step.Field 1, 2, row)
last = refl

behind : way pair 5 ≡ None
behind = refl

array : steps_at pair 2 ≡ Some (step.Field 1 ∷ [])
array = refl

last_element : steps_at pair 5 ≡ Some (step.Field 1 ∷ step.Elem 2 ∷ [])
last_element = refl

no_part : steps_at pair 6 ≡ None
no_part = refl

element : part_of row (step.Elem 2) ≡ Some (3, Leaf)
element = refl

no_element : part_of row (step.Elem 3) ≡ None
no_element = refl

member : part_of pair (step.Field 1) ≡ Some (2, row)
member = refl
