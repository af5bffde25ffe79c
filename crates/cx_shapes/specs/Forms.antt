-- The forms of objects, and how their parts are numbered: an object is number 0 in itself, and its bases, members or
-- elements follow one another, each with all its own parts ([intro.object]).
use Rattle.std.specs.Prelude.{◌≡◌, ℕ, zero, suc, ◌+◌, ◌*◌, ◌-◌, ◌/◌, ◌^◌, ◌<◌, ◌≤◌, ◌==◌, ◌&&◌, Bool, true, false, nat_lt, List, [], ◌∷◌, map, Option, None, Some, option_map, option_and_then, if◌then◌else◌}
use Rattle.cx_type_defs.specs.declared.ids.Step.{Step}
use Rattle.cx_type_defs.specs.declared.ids.Step.TheVariants as step
use Rattle.cx_shapes.specs.declared.shape.Shape.{Shape, fold-Shape}
use Rattle.cx_shapes.specs.declared.shape.Shape.TheOpen.{Shape-F}

-- a scalar or reference, so many elements, bases and members, or the members of a union
mutual
  pub data Form : Type 0 where
    Leaf : Form
    Row : ℕ → Form → Form
    Class : Forms → Forms → Form
    Union : Forms → Form

  pub data Forms : Type 0 where
    End : Forms
    More : Form → Forms → Forms

-- how many parts there are, itself counted
abbrev mutual
  pub size : Form → ℕ
  size Leaf = 1
  size (Row n f) = suc (n * size f)
  size (Class bs ms) = suc (sizes bs + sizes ms)
  size (Union ms) = suc (sizes ms)

  pub sizes : Forms → ℕ
  sizes End = 0
  sizes (More f fs) = size f + sizes fs

abbrev pub forms_of : List Form → Forms
forms_of [] = End
forms_of (f ∷ fs) = More f (forms_of fs)

-- the numbers tell where each of a list ends, which begins at a number
abbrev pub are_ends : ℕ → List Form → List ℕ → Bool
are_ends n [] [] = true
are_ends n (f ∷ fs) (e ∷ es) = (e == n + size f) && are_ends e fs es
are_ends n fs es = false

-- the forms of a list whose ends are told; where they are told wrongly, one that is too large for the code
unfoldable pub told : List ℕ → List Form → Forms
told es fs = if are_ends 0 fs es then forms_of fs else More (Row (2 ^ 62) Leaf) End

-- where an item begins: at the end of the one before it, the first at that number
abbrev pub start_at : ℕ → List ℕ → ℕ → ℕ
start_at n es zero = n
start_at n [] (suc i) = n
start_at n (e ∷ es) (suc i) = start_at e es i

abbrev pub shape_step : Shape-F Form → Form
shape_step Shape-F.Leaf = Leaf
shape_step (Shape-F.Row n f) = Row n f
shape_step (Shape-F.Class bs es ms fs) = Class (told es bs) (told fs ms)
shape_step (Shape-F.Union ms fs) = Union (told fs ms)

abbrev pub form_of : Shape → Form
form_of = fold-Shape Form shape_step

-- how many forms there are in it, an array's element counted once ([basic.types])
abbrev mutual
  pub nodes : Form → ℕ
  nodes Leaf = 1
  nodes (Row n f) = suc (nodes f)
  nodes (Class bs ms) = suc (nodes_in bs + nodes_in ms)
  nodes (Union ms) = suc (nodes_in ms)

  pub nodes_in : Forms → ℕ
  nodes_in End = 0
  nodes_in (More f fs) = nodes f + nodes_in fs

-- small enough for the numbers of the code
pub record Small (f : Form) : Type 0 where
  pub few_parts : size f < 2 ^ 62
  pub few_nodes : nodes f < 2 ^ 32

pub record AllSmall (fs : Forms) : Type 0 where
  pub few_parts : sizes fs < 2 ^ 62
  pub few_nodes : nodes_in fs < 2 ^ 32

-- shapes one behind the other, with their ends and the number of their parts
pub record AreListed (xs : List Shape) (es : List ℕ) (parts : ℕ) : Type 0 where
  pub told_ends : are_ends 0 (map form_of xs) es ≡ true
  pub counted : parts ≡ sizes (forms_of (map form_of xs))
  pub few : parts < 2 ^ 62

-- a part: its number, and its form
abbrev pub Part : Type 0
Part = ℕ × Form

abbrev pub further : ℕ → Part → Part
further n p = (n + p.0, p.1)

-- the item of a list, numbered from the list's first
abbrev pub item : Forms → ℕ → Option Part
item End i = None
item (More f fs) zero = Some (0, f)
item (More f fs) (suc i) = option_map (further (size f)) (item fs i)

-- the part that a step leads to; each member of a union is one
abbrev pub part_of : Form → Step → Option Part
part_of (Row n f) (step.Elem i) = if nat_lt i n then Some (suc (i * size f), f) else None
part_of (Class bs ms) (step.Base i) = option_map (further 1) (item bs i)
part_of (Class bs ms) (step.Field i) = option_map (further (suc (sizes bs))) (item ms i)
part_of (Union ms) (step.Field i) = option_map (further 1) (item ms i)
part_of _ _ = None

-- the part at the end of steps
abbrev pub below_of : Form → List Step → Option Part
below_of f [] = Some (0, f)
below_of f (s ∷ ss) = option_and_then (λ (p : Part). option_map (further p.0) (below_of p.1 ss)) (part_of f s)

-- the other way: the item that holds a number, with its index
abbrev pub Found : Type 0
Found = ℕ × ℕ × Form

abbrev pub later : ℕ → Found → Found
later n x = (suc x.0, n + x.1, x.2)

abbrev pub search : Forms → ℕ → Option Found
search End j = None
search (More f fs) j = if nat_lt j (size f) then Some (0, 0, f) else option_map (later (size f)) (search fs (j - size f))

-- the step to the part that holds a number, which is counted from the first part, and that part
abbrev pub Way : Type 0
Way = Step × ℕ × Form

abbrev pub by : (ℕ → Step) → ℕ → Found → Way
by s n x = (s x.0, n + x.1, x.2)

abbrev pub way : Form → ℕ → Option Way
way Leaf j = None
way (Row n f) j = if nat_lt j (n * size f) then Some (step.Elem (j / size f), suc (j / size f * size f), f) else None
way (Class bs ms) j = if nat_lt j (sizes bs) then option_map (by step.Base 1) (search bs j) else option_map (by step.Field (suc (sizes bs))) (search ms (j - sizes bs))
way (Union ms) j = option_map (by step.Field 1) (search ms j)

-- a way leads to a part that holds the number
pub record Leads (f : Form) (j : ℕ) (w : Way) : Type 0 where
  pub is_part : part_of f w.0 ≡ Some (w.1, w.2)
  pub behind : 1 ≤ w.1
  pub from : w.1 ≤ suc j
  pub before : suc j < w.1 + size w.2

-- the steps to the part with a number, of which there are at most so many
abbrev pub steps_in : ℕ → Form → ℕ → Option (List Step)
steps_in n f zero = Some []
steps_in zero f (suc j) = None
steps_in (suc n) f (suc j) = option_and_then (λ (w : Way). option_map (λ ss. w.0 ∷ ss) (steps_in n w.2 (suc j - w.1))) (way f j)

abbrev pub steps_at : Form → ℕ → Option (List Step)
steps_at f j = steps_in j f j

-- the part with a number, of that form, stands at the end of steps
pub record Stands (f : Form) (j : ℕ) (g : Form) : Type 0 where
  pub steps : List Step
  pub are_steps : steps_at f j ≡ Some steps
  pub leads : below_of f steps ≡ Some (j, g)
