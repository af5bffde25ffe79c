-- How many objects and cells there are, and making one more ([implimits], [expr.const]).
use Rattle.std.specs.Prelude.{◌≡◌, ℕ, ◌+◌, ◌*◌, nat_lt, nat_le, Bool, false, ◌&&◌, not, List, [], ◌∷◌, ◌++◌, length, map, sum, Option, None, Some, Result, unwrap_or, if◌then◌else◌}
use Rattle.std.specs.List.{find}
use Rattle.cx_base.specs.declared.rule.Rule.{Rule}
use Rattle.cx_base.specs.declared.rule.Rule.TheVariants as rule
use Rattle.cx_base.specs.declared.limits.Limits.{Limits}
use Rattle.cx_type_defs.specs.declared.ids.TypeId.{TypeId}
use Rattle.cx_type_defs.specs.Tables.{Tables}
use Rattle.cx_type_defs.specs.Questions.{OfType, asked, cells_of}
use Rattle.cx_state.specs.declared.kind.Kind.{Kind}
use Rattle.cx_state.specs.declared.kind.Birth.{Birth}
use Rattle.cx_state.specs.declared.kind.Phase.TheVariants as phase
use Rattle.cx_state.specs.Objects.{Path, Tree, Row, copies, Object, Objects}
use Rattle.cx_state.specs.Conditions.{is_opaque}
use Rattle.cx_state.specs.Pointers.{is_literal_kind}
use Rattle.cx_state.specs.Steps.{unless, new_tree}

-- what it takes to make an object
pub record Request : Type 0 where
  pub ty : TypeId
  pub count : Option ℕ
  pub kind : Kind
  pub konst : Bool
  pub birth : Birth

-- a string literal isn't counted, nor is an object that has only an address
abbrev pub counts : Kind → Birth → Bool
counts k b = not (is_literal_kind k) && not (is_opaque b)

abbrev pub whole_tree : Option ℕ → Tree → Tree
whole_tree None x = x
whole_tree (Some n) x = Row (copies n x)

-- a new object: nothing in it has a value or has begun its lifetime
abbrev pub new_object : Tables → Request → Object
new_object t q = record { ty = q.ty; count = q.count; kind = q.kind; konst = q.konst; birth = q.birth; released = false; counted = counts q.kind q.birth; tree = whole_tree q.count (new_tree t phase.Unborn q.ty) }

-- what an object of a type and count holds once it is released
abbrev pub ended_tree : Tables → Object → Tree
ended_tree t o = whole_tree o.count (new_tree t phase.Ended o.ty)

abbrev pub cells_in : Tables → Object → ℕ
cells_in t o = unwrap_or o.count 1 * unwrap_or (asked cells_of t (OfType o.ty)) 0

abbrev pub is_live : Object → Bool
is_live o = o.counted && not o.released

-- the cells of all counted objects that aren't released
abbrev pub live_cells : Tables → Objects → ℕ
live_cells t os = sum (map (λ (o : Object). if is_live o then cells_in t o else 0) os)

-- the limits, in the order in which they are asked: each where the next unit would pass its number
abbrev pub passes_limit : Tables → Limits → Objects → Object → Rule → Bool
passes_limit t limits os o rule.LimitObjects = nat_le limits.objects (length os)
passes_limit t limits os o rule.LimitCells = o.counted && nat_lt limits.cells (live_cells t os + cells_in t o)
passes_limit t limits os o _ = false

abbrev pub limit_order : List Rule
limit_order = rule.LimitObjects ∷ rule.LimitCells ∷ []

-- the limit that one object more would pass
abbrev pub passed_limit : Tables → Limits → Objects → Request → Option Rule
passed_limit t limits os q = find (passes_limit t limits os (new_object t q)) limit_order

abbrev pub make : Tables → Limits → Objects → Request → Result Objects Rule
make t limits os q = unless (passed_limit t limits os q) (os ++ new_object t q ∷ [])

-- the place of the object that is made next
abbrev pub next_place : Objects → Path
next_place os = record { object = length os; steps = []; past = false }

-- as many objects, and as many cells that count
pub record SameCounts (t : Tables) (before after : Objects) : Type 0 where
  pub as_many : length after ≡ length before
  pub as_large : live_cells t after ≡ live_cells t before
