-- What code means: one case for each instruction, each one move of the operands, one jump, one call, or one step on the
-- state ([intro.execution], [expr.call]).
use Rattle.std.specs.Prelude.{ℕ, zero, suc, ◌+◌, ◌==◌, nat_lt, Bool, List, [], ◌∷◌, ◌++◌, length, take, drop, reverse, Option, None, Some, slice_get, option_and_then, if◌then◌else◌}
use Rattle.cx_base.specs.declared.diag.Span.{Span}
use Rattle.cx_base.specs.declared.diag.Frame.{Frame}
use Rattle.cx_base.specs.declared.int_type.IntType.TheVariants as type
use Rattle.cx_base.specs.declared.rule.Rule.TheVariants as rule
use Rattle.cx_ints.specs.Conversions.{truth, is_zero}
use Rattle.cx_ints.specs.Operations.{int}
use Rattle.cx_type_defs.specs.declared.ids.ClassId.{ClassId}
use Rattle.cx_type_defs.specs.declared.ids.FuncId.{FuncId}
use Rattle.cx_type_defs.specs.declared.kind.TypeKind.TheVariants as kind
use Rattle.cx_type_defs.specs.Tables.{Tables}
use Rattle.cx_state.specs.declared.kind.Kind.TheVariants as made
use Rattle.cx_state.specs.declared.kind.Scalar.{Scalar}
use Rattle.cx_state.specs.declared.kind.Scalar.TheVariants as scalar
use Rattle.cx_state.specs.declared.root.JudgeMode.{JudgeMode}
use Rattle.cx_state.specs.declared.root.JudgeMode.TheVariants as mode
use Rattle.cx_state.specs.Objects.{Path}
use Rattle.cx_state.specs.Steps as steps
use Rattle.cx_state.specs.States.{Memory, State, Setting, Out, Value, Violation, Stuck, then_do, Op, Done, Broken, Wrong, does, finds, changes, bind, count, turn, enter}
use Rattle.cx_ops.specs.declared.StrictOp.{StrictOp}
use Rattle.cx_ops.specs.declared.StrictOp.TheVariants as op
use Rattle.cx_ops.specs.Strict.{strict}
use Rattle.cx_code.specs.declared.code.CellKind.{CellKind}
use Rattle.cx_code.specs.declared.code.CellKind.TheVariants as cell
use Rattle.cx_code.specs.declared.code.Code.{Code}
use Rattle.cx_code.specs.declared.code.Step.{Step}
use Rattle.cx_code.specs.declared.instr.Constant.{Constant}
use Rattle.cx_code.specs.declared.instr.Constant.TheVariants as constant
use Rattle.cx_code.specs.declared.instr.Shuffle.{Shuffle}
use Rattle.cx_code.specs.declared.instr.Shuffle.TheVariants as shuffle
use Rattle.cx_code.specs.declared.instr.Name.{Name}
use Rattle.cx_code.specs.declared.instr.Name.TheVariants as name
use Rattle.cx_code.specs.declared.instr.Making.{Making}
use Rattle.cx_code.specs.declared.instr.Making.TheVariants as making
use Rattle.cx_code.specs.declared.instr.Part.{Part}
use Rattle.cx_code.specs.declared.instr.Part.TheVariants as part
use Rattle.cx_code.specs.declared.instr.Access.{Access}
use Rattle.cx_code.specs.declared.instr.Access.TheVariants as access
use Rattle.cx_code.specs.declared.instr.Pointing.{Pointing}
use Rattle.cx_code.specs.declared.instr.Pointing.TheVariants as pointing
use Rattle.cx_code.specs.declared.instr.Called.{Called}
use Rattle.cx_code.specs.declared.instr.Called.TheVariants as called
use Rattle.cx_code.specs.declared.instr.Instr.{Instr}
use Rattle.cx_code.specs.declared.instr.Instr.TheVariants as i
use Rattle.cx_code.specs.Cells.{Cell, Held, At, Cells, Begun, Function, Initializer, Move, Forth, Jump, Back, Enter, Leave, op_map, on_value, on_number, on_place, forth_value, forth_place, forth}
use Rattle.cx_code.specs.Operations as on
use Rattle.cx_code.specs.Virtual.{virtually}

-- The codes of a program's functions, by number: None where nothing is known of a function's body, and `Some None` where
-- it isn't constexpr.
abbrev pub Codes : Type 0
Codes = List (Option (Option Code))

-- what stays the same all through a run, with the object that a judged expression of class type initializes
pub record Around : Type 0 where
  pub setting : Setting
  pub tables : Tables
  pub codes : Codes
  pub result : Option Path

abbrev pub code_at : Around → FuncId → Option (Option Code)
code_at g f = option_and_then (λ c. c) (slice_get g.codes f.0)

-- the class whose place the code of a function takes first
abbrev pub class_in : Option CellKind → Option ClassId
class_in (Some (cell.Place (kind.Class c))) = Some c
class_in _ = None

abbrev pub class_taken : Option (Option Code) → Option ClassId
class_taken (Some (Some c)) = class_in (slice_get c.parameters 0)
class_taken _ = None

-- ---- instructions by family

abbrev pub is_constant_evaluated : JudgeMode → Bool
is_constant_evaluated mode.Narrow = Bool.false
is_constant_evaluated _ = Bool.true

abbrev pub constant_of : Setting → Constant → Scalar Path
constant_of g (constant.Number a) = scalar.Int a
constant_of g (constant.Null k) = scalar.Null
constant_of g constant.Evaluated = scalar.Int (int type.Bool (truth (is_constant_evaluated g.mode)))

abbrev pub copied : Cells → Option Cell → Memory → Op Move
copied cs None m = Wrong
copied cs (Some c) m = Done (Forth (c ∷ cs)) m

abbrev pub shuffled : Shuffle → Cells → Memory → Op Move
shuffled shuffle.Pop (c ∷ cs) m = Done (Forth cs) m
shuffled (shuffle.Copy n) cs m = copied cs (slice_get cs n) m
shuffled shuffle.Swap (c ∷ d ∷ cs) m = Done (Forth (d ∷ c ∷ cs)) m
shuffled _ _ m = Wrong

abbrev pub result_place : Option Path → Memory → Op Path
result_place None m = Wrong
result_place (Some p) m = Done p m

abbrev pub named : Around → Name → Cells → Memory → Op Move
named g (name.Local r) cs m = forth_place cs (on.place r m)
named g (name.Outside r k) cs m = forth_place cs (on.place r m)
named g (name.Result k) cs m = forth_place cs (result_place g.result m)
named g (name.Bind r) cs m = on_place cs (λ p rest. forth rest (bind r p.object m))
named g (name.End r) cs m = forth cs (on.end_local r m)

abbrev pub made_by : Around → Span → Making → Cells → Memory → Op Move
made_by g at (making.Object ty k konst) cs m = forth_place cs (on.make_object g.setting g.tables (on.request ty None k konst) m)
made_by g at (making.One ty) cs m = forth_place cs (on.allocate g.setting g.tables at (on.request ty None made.Heap Bool.false) m)
made_by g at (making.Many ty least) cs m = on_number cs (λ a rest. forth_place rest (on.allocate_many g.setting g.tables at ty (on.new_length g.tables ty least a.value) m))
made_by g at making.Release cs m = on_place cs (λ p rest. forth rest (changes (λ os. steps.release os p) m))
made_by g at (making.Deletable many base) cs m = on_place cs (λ p rest. forth_place rest (on.deletable many base p m))
made_by g at making.Free cs m = on_place cs (λ p rest. forth rest (on.free p m))

abbrev pub parted : Tables → Part → Cells → Memory → Op Move
parted t (part.Field n) cs m = on_place cs (λ p rest. forth_place rest (finds (λ os. steps.to_field t os p n) m))
parted t (part.Base n) cs m = on_place cs (λ p rest. forth_place rest (finds (λ os. steps.to_base t os p n) m))
parted t (part.Element n) cs m = on_place cs (λ p rest. forth_place rest (finds (λ os. steps.to_elem t os p n) m))
parted t part.Index cs m = on_number cs (λ a below. on_place below (λ p rest. forth_place rest (on.index t p a.value m)))
parted t part.Length cs m = on_place cs (λ p rest. forth_value rest (on.elements_at t p m))
parted t (part.Outer c) cs m = on_place cs (λ p rest. forth_place rest (finds (λ os. steps.outer t os p c) m))
parted t part.Which cs m = on_place cs (λ p rest. forth_value rest (on.which t p m))
parted t part.Callable cs m = on_place cs (λ p rest. forth (At p ∷ rest) (finds (λ os. steps.call_on t os p) m))

abbrev pub accessed : Tables → Access → Cells → Memory → Op Move
accessed t access.Load cs m = on_place cs (λ p rest. forth_value rest (finds (λ os. steps.load t os p) m))
accessed t access.LoadReference cs m = on_place cs (λ p rest. forth_place rest (on.load_reference t p m))
accessed t access.Init cs m = on_place cs (λ p below. on_value below (λ v rest. forth (At p ∷ rest) (changes (λ os. steps.init t os p v) m)))
accessed t access.InitReference cs m = on_place cs (λ p below. on_place below (λ q rest. forth (At p ∷ rest) (changes (λ os. steps.init t os p (scalar.Place q)) m)))
accessed t access.Store cs m = on_place cs (λ p below. on_value below (λ v rest. forth (At p ∷ rest) (changes (λ os. steps.store t os p v) m)))
accessed t (access.Advance to) cs m = on_place cs (λ p rest. forth (At p ∷ rest) (changes (λ os. steps.advance t os p to) m))
accessed t (access.Activate n alive) cs m = on_place cs (λ p rest. forth (At p ∷ rest) (changes (λ os. steps.activate t os p n alive) m))
accessed t access.Deactivate cs m = on_place cs (λ p rest. forth (At p ∷ rest) (changes (λ os. steps.deactivate t os p) m))

abbrev pub pointed : Tables → Pointing → Cells → Memory → Op Move
pointed t (pointing.Address ty) cs m = on_place cs (λ p rest. Done (Forth (Held (scalar.Place p) ∷ rest)) m)
pointed t pointing.Indirect cs m = on_value cs (λ v rest. forth_place rest (on.indirect v m))
pointed t (pointing.Move minus) cs m = on_number cs (λ a below. on_value below (λ v rest. forth_value rest (on.move_by t v (on.signed_by minus a.value) m)))
pointed t pointing.Distance cs m = on_value cs (λ w below. on_value below (λ v rest. forth_value rest (on.distance v w m)))
pointed t pointing.Equal cs m = on_value cs (λ w below. on_value below (λ v rest. forth_value rest (on.equal t v w m)))
pointed t pointing.Less cs m = on_value cs (λ w below. on_value below (λ v rest. forth_value rest (on.less t v w m)))
pointed t (pointing.Retype k) cs m = on_value cs (λ v rest. Done (Forth (Held v ∷ rest)) m)

abbrev pub operated : StrictOp → Cells → Memory → Op Move
operated (op.Binary o) cs m = on_value cs (λ b below. on_value below (λ a rest. forth_value rest (strict (op.Binary o) (a ∷ b ∷ []) m)))
operated o cs m = on_value cs (λ a rest. forth_value rest (strict o (a ∷ []) m))

abbrev pub unless : ℕ → Bool → Cells → Move
unless to holds cs = if holds then Jump to cs else Forth cs

-- the object of a member call is its first argument, and so the lowest one
abbrev pub slot_called : Around → ℕ → Cells → Cells → Memory → Op Move
slot_called g k (At p ∷ args) rest m = op_map (virtually g.tables (λ f. class_taken (code_at g f)) k p m) (λ x. Enter (Function x.0) (reverse (At x.1 ∷ args)) rest)
slot_called g k _ rest m = Wrong

abbrev pub entered : Around → Called → Cells → Cells → Memory → Op Move
entered g (called.Function f) args rest m = Done (Enter (Function f) args rest) m
entered g (called.Slot c k) args rest m = slot_called g k (reverse args) rest m
entered g (called.Initializer f) args rest m = Done (Enter (Initializer f) args rest) m

abbrev pub top : Cells → Memory → Op Move
top [] m = Wrong
top (c ∷ cs) m = Done (Leave (c ∷ [])) m

-- ---- one instruction

abbrev pub act : Around → Span → Instr → Cells → Memory → Op Move
act g at (i.Push c) cs m = Done (Forth (Held (constant_of g.setting c) ∷ cs)) m
act g at (i.Shuffle s) cs m = shuffled s cs m
act g at (i.Name n) cs m = named g n cs m
act g at (i.Make x) cs m = made_by g at x cs m
act g at (i.Part x) cs m = parted g.tables x cs m
act g at (i.Access x) cs m = accessed g.tables x cs m
act g at (i.Pointing x) cs m = pointed g.tables x cs m
act g at (i.Strict o) cs m = operated o cs m
act g at (i.ToEnum e) cs m = on_number cs (λ a rest. forth_value rest (on.to_enum g.tables e a m))
act g at i.Count cs m = forth cs (count g.setting m)
act g at (i.Break r) cs m = Broken r
act g at (i.Go to) cs m = Done (Jump to cs) m
act g at (i.Unless to) cs m = on_number cs (λ a rest. Done (unless to (is_zero a.value) rest) m)
act g at (i.Turn to) cs m = Done (Back to cs) m
act g at (i.Call c) cs m = if nat_lt (length cs) (length c.parameters) then Wrong else entered g c.to (take (length c.parameters) cs) (drop (length c.parameters) cs) m
act g at i.Return cs m = top cs m
act g at i.Leave cs m = Done (Leave []) m

-- ---- calls

-- what the code does from a place on, with these operands
abbrev pub Runs : Type 0
Runs = ℕ → Cells → State → Out Cells

abbrev pub Calls : Type 0
Calls = Begun → Cells → Span → State → Out Cells

-- behind a call, the names and the frames are those of before it
abbrev pub returned : Memory → Cells → State → Out Cells
returned m cs s = Value cs (record { memory = record s.memory { bindings = m.bindings; frames = m.frames }; left = s.left })

abbrev pub frame_of : Code → Span → Frame
frame_of c at = record { span = at; name = c.name }

-- A call of a function has a frame, and its depth and a turn are counted; the use of a default member initializer has no
-- frame and no depth, and a turn is counted ([class.mem]).
abbrev pub entering : Setting → (Code → Cells → State → Out Cells) → Option (Option Code) → Cells → Span → State → Out Cells
entering g go None cs at s = Violation rule.UndefinedFunction at s
entering g go (Some None) cs at s = Violation rule.NonConstexprCall at s
entering g go (Some (Some c)) cs at s = enter g (frame_of c at) s (λ t. then_do (go c cs t) (returned s.memory))

abbrev pub using_init : (Code → Cells → State → Out Cells) → Option (Option Code) → Cells → Span → State → Out Cells
using_init go (Some (Some c)) cs at s = turn at s (λ t. then_do (go c cs t) (returned s.memory))
using_init go _ cs at s = Violation rule.UndefinedFunction at s

abbrev pub begin : Around → (Code → Cells → State → Out Cells) → Calls
begin g go (Function f) cs at s = entering g.setting go (code_at g f) cs at s
begin g go (Initializer f) cs at s = using_init go (code_at g f) cs at s

-- ---- code

-- on where a move leads; `here` is the place behind the instruction
abbrev pub go_on : Runs → Runs → Calls → ℕ → Span → Move → State → Out Cells
go_on ahead back calls here at (Forth cs) s = ahead here cs s
go_on ahead back calls here at (Jump to cs) s = ahead to cs s
go_on ahead back calls here at (Back to cs) s = turn at s (λ t. back to cs t)
go_on ahead back calls here at (Enter f args cs) s = then_do (calls f args at s) (λ given t. ahead here (given ++ cs) t)
go_on ahead back calls here at (Leave cs) s = Value cs s

-- the code from a place on: `back` is for the turns, `calls` for the calls
abbrev pub from : Around → Runs → Calls → List Step → Runs
from g back calls [] to cs s = Stuck
from g back calls (x ∷ rest) to cs s =
    if to == length rest + 1
    then then_do (does x.span s (act g x.span x.instr cs s.memory)) (λ move t. go_on (from g back calls rest) back calls (length rest) x.span move t)
    else from g back calls rest to cs s

-- what a code does from a place on, where fewer than n turns are left
abbrev pub means : Around → ℕ → List Step → Runs
means g zero steps to cs s = Stuck
means g (suc n) steps to cs s =
    from g (means g n steps) (begin g (λ c args t. means g n c.steps (length c.steps) args t)) steps to cs s

-- the meaning of a code with its arguments, the last on top, where fewer than n turns are left
abbrev pub code_means : Around → ℕ → Code → Cells → State → Out Cells
code_means g n c args s = means g n c.steps (length c.steps) args s

-- in a state, for which the bound is no matter
abbrev pub CodeMeans : Around → Code → Cells → State → Out Cells
CodeMeans g c args s = code_means g (suc s.left) c args s
