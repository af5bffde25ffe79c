-- Worked cases: each rule that a step over objects, pointers, allocations and enumerations tells, once.
use Rattle.std.proofs.Common.{◌≡◌, ℕ, List, [], ◌∷◌, None, Some, refl, ℤ, pos, negsuc, true, false}
use Rattle.cx_base.specs.declared.diag.Span.{Span}
use Rattle.cx_base.specs.declared.rule.Rule.{Rule}
use Rattle.cx_base.specs.declared.rule.Rule.TheVariants as rule
use Rattle.cx_base.specs.declared.int_type.IntType.TheVariants as type
use Rattle.cx_ints.specs.declared.operators.BinOp.{BinOp}
use Rattle.cx_ints.specs.declared.operators.BinOp.TheVariants as two
use Rattle.cx_ints.specs.Ranges.{width, is_signed, least, greatest, fits}
use Rattle.cx_ints.specs.Conversions.{reduce, converted, promote, common, common_promoted, mixed, higher, rank}
use Rattle.cx_ints.specs.Operations.{int, delivered, quotient, operation}
use Rattle.cx_type_defs.specs.declared.ids.TypeId.{TypeId}
use Rattle.cx_type_defs.specs.declared.kind.TypeRow.{TypeRow}
use Rattle.cx_type_defs.specs.declared.kind.TypeKind.{TypeKind}
use Rattle.cx_type_defs.specs.declared.kind.TypeKind.TheVariants as kind
use Rattle.cx_type_defs.specs.Tables.{Tables}
use Rattle.cx_type_defs.specs.Questions.{asked, looked, most_levels}
use Rattle.cx_type_defs.specs.Enums.{first_from}
use Rattle.cx_state.specs.declared.kind.Kind.TheVariants as made
use Rattle.cx_state.specs.declared.kind.Birth.{Birth}
use Rattle.cx_state.specs.declared.kind.Birth.TheVariants as birth
use Rattle.cx_state.specs.declared.kind.Scalar.TheVariants as scalar
use Rattle.cx_state.specs.declared.root.Root.{Root}
use Rattle.cx_state.specs.declared.root.Root.TheVariants as root
use Rattle.cx_state.specs.declared.root.JudgeMode.{JudgeMode}
use Rattle.cx_state.specs.declared.root.JudgeMode.TheVariants as mode
use Rattle.cx_state.specs.Objects.{Object, Leaf}
use Rattle.cx_state.specs.States.{Allocation, State, Out, Value, Violation, Stuck}
use Rattle.cx_ops.specs.declared.StrictOp.TheVariants as op
use Rattle.cx_code.specs.declared.code.Step.{Step}
use Rattle.cx_code.specs.declared.instr.Constant.TheVariants as constant
use Rattle.cx_code.specs.declared.instr.Shuffle.TheVariants as shuffle
use Rattle.cx_code.specs.declared.instr.Name.TheVariants as name
use Rattle.cx_code.specs.declared.instr.Making.TheVariants as making
use Rattle.cx_code.specs.declared.instr.Part.TheVariants as part
use Rattle.cx_code.specs.declared.instr.Access.TheVariants as access
use Rattle.cx_code.specs.declared.instr.Pointing.{Pointing}
use Rattle.cx_code.specs.declared.instr.Pointing.TheVariants as pointing
use Rattle.cx_code.specs.declared.instr.Instr.{Instr}
use Rattle.cx_code.specs.declared.instr.Instr.TheVariants as i
use Rattle.cx_code.specs.Cells.{Held, Cells}
use Rattle.cx_code.specs.Means.{Around, CodeMeans}

abbrev line : Span
line = record { start = record { byte = 0; line = 1; col = 1 }; end = record { byte = 0; line = 1; col = 2 } }

abbrev ty : ℕ → TypeId
ty k = record { 0 = k }

abbrev row : TypeKind → TypeRow
row k = record { kind = k; konst = false }

-- int, int*, int&, int[2] and an enumeration `enum E { a = 0, b = 1 }`, whose values are 0 and 1
abbrev tables : Tables
tables = record {
  rows = row (kind.Int type.Int) ∷ row (kind.Pointer (ty 0)) ∷ row (kind.Reference (ty 0)) ∷ row (kind.Array (ty 0) 2) ∷ row (kind.Enum (record { 0 = 0 })) ∷ [];
  classes = [];
  enums = record { name = []; scoped = false; fixed = None; end = Some (record { under = type.UInt; low = pos 0; high = pos 1 }) } ∷ [];
}

abbrev around : ℕ → ℕ → JudgeMode → Around
around objects cells md = record {
  setting = record { limits = record { depth = 9; exprs = 9; turns = 9; cells = cells; objects = objects }; mode = md };
  tables = tables;
  codes = [];
  result = None;
}

-- variable 0 is an int, of the birth and with the value; variable 1 a reference that is bound to nothing
abbrev given : Birth → Object
given b = record { ty = ty 0; count = None; kind = made.Static; konst = false; birth = b; released = false; counted = true; tree = Leaf (scalar.Int (int type.Int (pos 5))) }

abbrev unbound : Object
unbound = record { ty = ty 2; count = None; kind = made.Auto; konst = false; birth = birth.Here; released = false; counted = true; tree = Leaf scalar.Indeterminate }

abbrev var : ℕ → Root
var k = root.Variable (record { 0 = k })

abbrev start : Birth → State
start b = record { memory = record { objects = given b ∷ unbound ∷ []; bindings = (var 0, 0) ∷ (var 1, 1) ∷ []; frames = []; allocations = []; exprs = 0 }; left = 9 }

abbrev steps_of : List Instr → List Step
steps_of [] = record { span = line; instr = i.Return } ∷ []
steps_of (x ∷ xs) = record { span = line; instr = x } ∷ steps_of xs

data Seen : Type 0 where
  Gives : Cells → List Allocation → Seen
  Breaks : Rule → Seen
  Stops : Seen

abbrev seen : Out Cells → Seen
seen (Value cs s) = Gives cs s.memory.allocations
seen (Violation r at s) = Breaks r
seen Stuck = Stops

abbrev run_in : Around → Birth → List Instr → Seen
run_in g b xs = seen (CodeMeans g (record { name = []; parameters = []; result = None; steps = steps_of xs }) [] (start b))

abbrev run : List Instr → Seen
run xs = run_in (around 9 9 mode.Constant) birth.Here xs

abbrev number : ℤ → Cells
number z = Held (scalar.Int (int type.Int z)) ∷ []

abbrev n : ℤ → Instr
n z = i.Push (constant.Number (int type.Int z))

abbrev object : ℕ → Instr
object k = i.Make (making.Object (ty k) made.Auto false)

abbrev out : Instr
out = i.Name (name.Outside (var 0) (kind.Int type.Int))

abbrev load : Instr
load = i.Access access.Load

-- what is read
reads : run (out ∷ load ∷ []) ≡ Gives (number (pos 5)) []
reads = refl

writes : run (n (pos 7) ∷ out ∷ i.Access access.Store ∷ load ∷ []) ≡ Gives (number (pos 7)) []
writes = refl

no_value : run (object 0 ∷ load ∷ []) ≡ Breaks rule.Indeterminate
unfolding asked looked most_levels
no_value = refl

not_usable : run_in (around 9 9 mode.Constant) birth.Opaque (out ∷ load ∷ []) ≡ Breaks rule.NotUsable
not_usable = refl

outside_write : run_in (around 9 9 mode.Constant) birth.Usable (n (pos 7) ∷ out ∷ i.Access access.Store ∷ []) ≡ Breaks rule.OutsideWrite
outside_write = refl

const_write : run (n (pos 7) ∷ n (pos 6) ∷ i.Make (making.Object (ty 0) made.Auto true) ∷ i.Access access.Init ∷ i.Access access.Store ∷ []) ≡ Breaks rule.ConstWrite
unfolding asked looked most_levels
const_write = refl

-- a reference that is bound to nothing
unbound_reference : run (i.Name (name.Outside (var 1) (kind.Reference (ty 0))) ∷ i.Access access.LoadReference ∷ []) ≡ Breaks rule.UnboundReference
unbound_reference = refl

-- a reference that is bound
bound_reference : run (out ∷ object 2 ∷ i.Access access.InitReference ∷ i.Access access.LoadReference ∷ load ∷ []) ≡ Gives (number (pos 5)) []
unfolding asked looked most_levels
bound_reference = refl

-- a released object
dangling : run (object 0 ∷ i.Shuffle (shuffle.Copy 0) ∷ i.Make making.Release ∷ load ∷ []) ≡ Breaks rule.Dangling
unfolding asked looked most_levels
dangling = refl

-- ---- pointers

null_indirection : run (i.Push (constant.Null (kind.Pointer (ty 0))) ∷ i.Pointing pointing.Indirect ∷ []) ≡ Breaks rule.NullIndirection
null_indirection = refl

abbrev address : Instr
address = i.Pointing (pointing.Address (ty 0))

abbrev move : ℤ → List Instr → List Instr
move z xs = out ∷ address ∷ n z ∷ i.Pointing (pointing.Move false) ∷ xs

past_end : run (move (pos 1) (i.Pointing pointing.Indirect ∷ [])) ≡ Breaks rule.PastEnd
past_end = refl

pointer_range : run (move (pos 2) []) ≡ Breaks rule.PointerRange
pointer_range = refl

-- `&a - &b` of two objects, and `&a < &b`
abbrev apart : Pointing → List Instr
apart p = object 0 ∷ address ∷ object 0 ∷ address ∷ i.Pointing p ∷ []

pointer_distance : run (apart pointing.Distance) ≡ Breaks rule.PointerDistance
unfolding asked looked most_levels
pointer_distance = refl

unspecified_compare : run (apart pointing.Less) ≡ Breaks rule.UnspecifiedCompare
unfolding asked looked most_levels
unspecified_compare = refl

unequal : run (apart pointing.Equal) ≡ Gives (Held (scalar.Int (int type.Bool (pos 0))) ∷ []) []
unfolding asked looked most_levels
unequal = refl

-- an element behind the last of two
index_range : run (object 3 ∷ n (pos 3) ∷ i.Part part.Index ∷ []) ≡ Breaks rule.PointerRange
unfolding asked looked most_levels
index_range = refl

array_length : run (object 3 ∷ i.Part part.Length ∷ []) ≡ Gives (Held (scalar.Int (int type.ULong (pos 2))) ∷ []) []
unfolding asked looked most_levels
array_length = refl

-- ---- allocations

-- what `new int` made stays an allocation, with its span
leaks : run (i.Make (making.One (ty 0)) ∷ i.Shuffle shuffle.Pop ∷ n (pos 1) ∷ []) ≡ Gives (number (pos 1)) (record { object = 2; at = line } ∷ [])
unfolding asked looked most_levels
leaks = refl

frees : run (n (pos 1) ∷ i.Make (making.One (ty 0)) ∷ i.Make (making.Deletable false false) ∷ i.Make making.Free ∷ []) ≡ Gives (number (pos 1)) []
unfolding asked looked most_levels
frees = refl

foreign_delete : run (out ∷ i.Make (making.Deletable false false) ∷ []) ≡ Breaks rule.ForeignDelete
foreign_delete = refl

delete_form : run (i.Make (making.One (ty 0)) ∷ i.Make (making.Deletable true false) ∷ []) ≡ Breaks rule.DeleteForm
unfolding asked looked most_levels
delete_form = refl

deletes_array : run (n (pos 2) ∷ i.Make (making.Many (ty 0) 0) ∷ i.Part (part.Element 0) ∷ i.Make (making.Deletable true false) ∷ i.Make making.Free ∷ n (pos 1) ∷ []) ≡ Gives (number (pos 1)) []
unfolding asked looked most_levels
deletes_array = refl

below_zero : run (n (negsuc 0) ∷ i.Make (making.Many (ty 0) 0) ∷ []) ≡ Breaks rule.ArrayNewLength
below_zero = refl

below_list : run (n (pos 1) ∷ i.Make (making.Many (ty 0) 2) ∷ []) ≡ Breaks rule.ArrayNewLength
below_list = refl

-- ---- limits

limit_objects : run_in (around 2 9 mode.Constant) birth.Here (object 0 ∷ []) ≡ Breaks rule.LimitObjects
limit_objects = refl

limit_cells : run_in (around 9 3 mode.Constant) birth.Here (object 3 ∷ []) ≡ Breaks rule.LimitCells
unfolding asked looked most_levels
limit_cells = refl

-- ---- numbers

abbrev calc : BinOp → ℤ → ℤ → Seen
calc o x y = run (n x ∷ n y ∷ i.Strict (op.Binary o) ∷ [])

divide_by_zero : calc two.Div (pos 1) (pos 0) ≡ Breaks rule.DivideByZero
unfolding operation delivered quotient fits least greatest is_signed width converted reduce common common_promoted mixed higher rank promote
divide_by_zero = refl

enum_cast : run (n (pos 2) ∷ i.ToEnum (record { 0 = 0 }) ∷ []) ≡ Breaks rule.EnumCast
unfolding first_from
enum_cast = refl

-- ---- the mode

evaluated : run (i.Push constant.Evaluated ∷ []) ≡ Gives (Held (scalar.Int (int type.Bool (pos 1))) ∷ []) []
evaluated = refl

narrow : run_in (around 9 9 mode.Narrow) birth.Here (i.Push constant.Evaluated ∷ []) ≡ Gives (Held (scalar.Int (int type.Bool (pos 0))) ∷ []) []
narrow = refl
