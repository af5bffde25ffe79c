-- What single steps find and change, over those of objects ([expr.unary.op], [expr.add], [expr.new], [expr.delete],
-- [class.virtual]).
use Rattle.std.specs.Prelude.{ℕ, ◌*◌, ◌==◌, nat_lt, Bool, true, false, ◌&&◌, ◌||◌, not, List, [], ◌∷◌, ◌++◌, Option, None, Some, unwrap_or, slice_get, option_and_then, option_map, if◌then◌else◌, ℤ, pos, negsuc, neg_ℤ}
use Rattle.std.specs.List.{list_any, filter}
use Rattle.cx_base.specs.declared.diag.Span.{Span}
use Rattle.cx_base.specs.declared.int_type.IntType.{IntType}
use Rattle.cx_base.specs.declared.int_type.IntType.TheVariants as type
use Rattle.cx_base.specs.declared.rule.Rule.{Rule}
use Rattle.cx_base.specs.declared.rule.Rule.TheVariants as rule
use Rattle.cx_ints.specs.declared.int.Int.{Int}
use Rattle.cx_ints.specs.Conversions.{convert, truth, is_zero}
use Rattle.cx_ints.specs.Operations.{int}
use Rattle.cx_type_defs.specs.declared.ids.TypeId.{TypeId}
use Rattle.cx_type_defs.specs.declared.ids.EnumId.{EnumId}
use Rattle.cx_type_defs.specs.declared.ids.Step.{Step}
use Rattle.cx_type_defs.specs.declared.ids.Step.TheVariants as to
use Rattle.cx_type_defs.specs.declared.kind.TypeRow.{TypeRow}
use Rattle.cx_type_defs.specs.Tables.{Tables, under_at}
use Rattle.cx_type_defs.specs.Questions.{OfType, asked, cells_of}
use Rattle.cx_type_defs.specs.Enums.{values_at, holds}
use Rattle.cx_state.specs.declared.kind.Kind.{Kind}
use Rattle.cx_state.specs.declared.kind.Kind.TheVariants as made
use Rattle.cx_state.specs.declared.kind.Birth.TheVariants as birth
use Rattle.cx_state.specs.declared.kind.Scalar.{Scalar}
use Rattle.cx_state.specs.declared.kind.Scalar.TheVariants as scalar
use Rattle.cx_state.specs.declared.root.Root.{Root}
use Rattle.cx_state.specs.Objects.{Path, Object, same_steps}
use Rattle.cx_state.specs.Places.{elements, row_of}
use Rattle.cx_state.specs.Conditions.{all_bases}
use Rattle.cx_state.specs.Pointers as pointers
use Rattle.cx_state.specs.Steps as steps
use Rattle.cx_state.specs.Counts.{Request, make, next_place}
use Rattle.cx_state.specs.States.{Memory, Setting, Allocation, Op, Done, Broken, Wrong, same_root, bound, finds, changes}
use Rattle.cx_code.specs.Cells.{op_then, op_map}

-- ---- names

abbrev pub whole : ℕ → Path
whole n = record { object = n; steps = []; past = false }

abbrev pub placed : Memory → Option ℕ → Op Path
placed m None = Wrong
placed m (Some n) = Done (whole n) m

-- where the object is that a name stands for
abbrev pub place : Root → Memory → Op Path
place r m = placed m (bound m.bindings r)

-- the newest name no longer stands for its object, which is released
abbrev pub end_of : Root → List (Root × ℕ) → Memory → Op (Unit {0})
end_of r [] m = Wrong
end_of r (b ∷ bs) m = if same_root b.0 r then changes (λ os. steps.release os (whole b.1)) (record m { bindings = bs }) else Wrong

abbrev pub end_local : Root → Memory → Op (Unit {0})
end_local r m = end_of r m.bindings m

-- ---- making

abbrev pub request : TypeId → Option ℕ → Kind → Bool → Request
request ty n k konst = record { ty = ty; count = n; kind = k; konst = konst; birth = birth.Here }

-- a new object, and where it is
abbrev pub make_object : Setting → Tables → Request → Memory → Op Path
make_object g t q m = op_map (changes (λ os. make t g.limits os q) m) (λ _. next_place m.objects)

abbrev pub allocated : Span → Path → Memory → Op Path
allocated at p m = Done p (record m { allocations = m.allocations ++ record { object = p.object; at = at } ∷ [] })

-- what `new` makes, which from then on is an allocation
abbrev pub allocate : Setting → Tables → Span → Request → Memory → Op Path
allocate g t at q m = op_then (make_object g t q m) (allocated at)

-- an array of so many elements has more cells than one may have
abbrev pub passes_length : Tables → TypeId → ℕ → Bool
passes_length t ty n = nat_lt 1_073_741_824 (n * unwrap_or (asked cells_of t (OfType ty)) 0)

-- the length that is asked for, where it is from the number of elements that are initialized on
abbrev pub new_length : Tables → TypeId → ℕ → ℤ → Option ℕ
new_length t ty least (pos n) = if nat_lt n least || passes_length t ty n then None else Some n
new_length t ty least (negsuc n) = None

abbrev pub allocate_many : Setting → Tables → Span → TypeId → Option ℕ → Memory → Op Path
allocate_many g t at ty None m = Broken rule.ArrayNewLength
allocate_many g t at ty (Some n) m = allocate g t at (request ty (Some n) made.HeapArray false) m

-- ---- giving back

abbrev pub is_allocated : Memory → Path → Bool
is_allocated m p = list_any (λ (a : Allocation). a.object == p.object) m.allocations

-- The place is what `new` gave: of an array its first element, and else the object, or a base of it where its class has
-- a virtual destructor.
abbrev pub starts : Kind → Bool → Bool → List Step → Bool
starts made.HeapArray true base ss = same_steps ss (to.Elem 0 ∷ [])
starts made.Heap false true ss = all_bases ss
starts made.Heap false false ss = same_steps ss []
starts k many base ss = false

abbrev pub is_start : Bool → Bool → Memory → Path → Bool
is_start many base m p = (many || not p.past) && unwrap_or (option_map (λ (o : Object). starts o.kind many base p.steps) (slice_get m.objects p.object)) false

-- what a `delete` asks of its place
abbrev pub deletable : Bool → Bool → Path → Memory → Op Path
deletable many base p m =
    if pointers.is_dangling m.objects p then Broken rule.Dangling
    else if not (is_allocated m p) then Broken rule.ForeignDelete
    else if is_start many base m p then Done p m
    else Broken rule.DeleteForm

-- the object is released, and is no allocation any more
abbrev pub free : Path → Memory → Op (Unit {0})
free p m = changes (λ os. steps.release os p) (record m { allocations = filter (λ (a : Allocation). not (a.object == p.object)) m.allocations })

-- ---- parts

abbrev pub index : Tables → Path → ℤ → Memory → Op Path
index t p i m = op_then (finds (λ os. steps.to_elem t os p 0) m) (λ q u. finds (λ os. pointers.add t os q i) u)

abbrev pub counted : Memory → Option (ℕ × TypeId) → Op (Scalar Path)
counted m None = Wrong
counted m (Some e) = Done (scalar.Int (int type.ULong (pos e.0))) m

-- how many elements an array has
abbrev pub elements_at : Tables → Path → Memory → Op (Scalar Path)
elements_at t p m = counted m (option_and_then (λ (r : TypeRow). elements r.kind) (row_of t m.objects p))

abbrev pub member_number : Option ℕ → Scalar Path
member_number None = scalar.Int (int type.Long (negsuc 0))
member_number (Some i) = scalar.Int (int type.Long (pos i))

abbrev pub which : Tables → Path → Memory → Op (Scalar Path)
which t p m = op_map (finds (λ os. steps.active t os p) m) member_number

-- ---- reading a reference

abbrev pub reference_rule : Rule → Rule
reference_rule rule.NotUsable = rule.UnboundReference
reference_rule rule.Indeterminate = rule.UnboundReference
reference_rule r = r

abbrev pub as_reference : Op (Scalar Path) → Op Path
as_reference (Done (scalar.Place p) m) = Done p m
as_reference (Done v m) = Wrong
as_reference (Broken r) = Broken (reference_rule r)
as_reference Wrong = Wrong

abbrev pub load_reference : Tables → Path → Memory → Op Path
load_reference t p m = as_reference (finds (λ os. steps.load t os p) m)

-- ---- pointers

-- where a pointer points to
abbrev pub indirect : Scalar Path → Memory → Op Path
indirect scalar.Null m = Broken rule.NullIndirection
indirect (scalar.Place p) m = if pointers.is_dangling m.objects p then Broken rule.Dangling else if p.past then Broken rule.PastEnd else Done p m
indirect v m = Wrong

abbrev pub signed_by : Bool → ℤ → ℤ
signed_by true z = neg_ℤ z
signed_by false z = z

-- a pointer and a number added
abbrev pub move_by : Tables → Scalar Path → ℤ → Memory → Op (Scalar Path)
move_by t scalar.Null z m = if is_zero z then Done scalar.Null m else Broken rule.PointerRange
move_by t (scalar.Place p) z m = op_map (finds (λ os. pointers.add t os p z) m) scalar.Place
move_by t v z m = Wrong

abbrev pub distance : Scalar Path → Scalar Path → Memory → Op (Scalar Path)
distance scalar.Null scalar.Null m = Done (scalar.Int (int type.Long (pos 0))) m
distance scalar.Null (scalar.Place q) m = Broken rule.PointerDistance
distance (scalar.Place p) scalar.Null m = Broken rule.PointerDistance
distance (scalar.Place p) (scalar.Place q) m = op_map (finds (λ os. pointers.distance os p q) m) (λ z. scalar.Int (int type.Long z))
distance v w m = Wrong

abbrev pub as_bool : Bool → Scalar Path
as_bool b = scalar.Int (int type.Bool (truth b))

abbrev pub equal : Tables → Scalar Path → Scalar Path → Memory → Op (Scalar Path)
equal t scalar.Null scalar.Null m = Done (as_bool true) m
equal t scalar.Null (scalar.Place q) m = Done (as_bool false) m
equal t (scalar.Place p) scalar.Null m = Done (as_bool false) m
equal t (scalar.Place p) (scalar.Place q) m = op_map (finds (λ os. pointers.equal t os p q) m) as_bool
equal t v w m = Wrong

abbrev pub less : Tables → Scalar Path → Scalar Path → Memory → Op (Scalar Path)
less t scalar.Null scalar.Null m = Done (as_bool false) m
less t scalar.Null (scalar.Place q) m = Broken rule.UnspecifiedCompare
less t (scalar.Place p) scalar.Null m = Broken rule.UnspecifiedCompare
less t (scalar.Place p) (scalar.Place q) m = op_map (finds (λ os. pointers.less t os p q) m) as_bool
less t v w m = Wrong

-- ---- enumerations

abbrev pub enumerated : Int → Option IntType → Option (ℤ × ℤ) → Memory → Op (Scalar Path)
enumerated a (Some under) (Some values) m = if holds values a.value a.value then Done (scalar.Int (convert a under)) m else Broken rule.EnumCast
enumerated a _ _ m = Wrong

-- the number as a value of an enumeration, which has to have it
abbrev pub to_enum : Tables → EnumId → Int → Memory → Op (Scalar Path)
to_enum t e a m = enumerated a (under_at t e) (values_at t e) m
