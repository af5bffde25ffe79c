-- Worked cases: a loop, a call, a violation in a callee with its frames, each way out, and the counts.
use Rattle.std.proofs.Common.{◌≡◌, ℕ, List, [], ◌∷◌, None, Some, refl, ℤ, pos, negsuc, false}
use Rattle.cx_base.specs.declared.diag.Span.{Span}
use Rattle.cx_base.specs.declared.diag.Frame.{Frame}
use Rattle.cx_base.specs.declared.rule.Rule.{Rule}
use Rattle.cx_base.specs.declared.rule.Rule.TheVariants as rule
use Rattle.cx_base.specs.declared.int_type.IntType.TheVariants as type
use Rattle.cx_ints.specs.declared.operators.BinOp.TheVariants as two
use Rattle.cx_ints.specs.Ranges.{width, is_signed, least, greatest, fits}
use Rattle.cx_ints.specs.Conversions.{reduce, converted, promote, common, common_promoted, mixed, higher, rank}
use Rattle.cx_ints.specs.Operations.{int, delivered, operation}
use Rattle.cx_type_defs.specs.declared.kind.TypeRow.{TypeRow}
use Rattle.cx_type_defs.specs.declared.kind.TypeKind.TheVariants as kind
use Rattle.cx_type_defs.specs.Tables.{Tables}
use Rattle.cx_type_defs.specs.Questions.{asked, looked, most_levels}
use Rattle.cx_state.specs.declared.kind.Kind.TheVariants as made
use Rattle.cx_state.specs.declared.kind.Scalar.TheVariants as scalar
use Rattle.cx_state.specs.declared.root.Root.{Root}
use Rattle.cx_state.specs.declared.root.Root.TheVariants as root
use Rattle.cx_state.specs.declared.root.JudgeMode.TheVariants as mode
use Rattle.cx_state.specs.States.{State, Out, Value, Violation, Stuck}
use Rattle.cx_ops.specs.declared.StrictOp.TheVariants as op
use Rattle.cx_code.specs.declared.code.CellKind.{CellKind}
use Rattle.cx_code.specs.declared.code.CellKind.TheVariants as cell
use Rattle.cx_code.specs.declared.code.Code.{Code}
use Rattle.cx_code.specs.declared.code.Step.{Step}
use Rattle.cx_code.specs.declared.instr.Constant.TheVariants as constant
use Rattle.cx_code.specs.declared.instr.Shuffle.TheVariants as shuffle
use Rattle.cx_code.specs.declared.instr.Name.TheVariants as name
use Rattle.cx_code.specs.declared.instr.Making.TheVariants as making
use Rattle.cx_code.specs.declared.instr.Access.TheVariants as access
use Rattle.cx_code.specs.declared.instr.Called.TheVariants as called
use Rattle.cx_code.specs.declared.instr.Instr.{Instr}
use Rattle.cx_code.specs.declared.instr.Instr.TheVariants as i
use Rattle.cx_code.specs.Cells.{Held, Cells}
use Rattle.cx_code.specs.Means.{Around, Codes, CodeMeans}

abbrev line : ℕ → Span
line n = record { start = record { byte = n; line = n; col = 1 }; end = record { byte = n; line = n; col = 2 } }

abbrev int_row : TypeRow
int_row = record { kind = kind.Int type.Int; konst = false }

abbrev tables : Tables
tables = record { rows = int_row ∷ []; classes = []; enums = [] }

abbrev is_int : CellKind
is_int = cell.Value (kind.Int type.Int)

abbrev with_depth : ℕ → ℕ → Codes → Around
with_depth depth exprs codes = record {
  setting = record { limits = record { depth = depth; exprs = exprs; turns = 9; cells = 9; objects = 9 }; mode = mode.Constant };
  tables = tables;
  codes = codes;
  result = None;
}

abbrev start : ℕ → State
start left = record { memory = record { objects = []; bindings = []; frames = []; allocations = []; exprs = 0 }; left = left }

abbrev by : ℕ → Instr → Step
by n x = record { span = line n; instr = x }

abbrev code : ℕ → List CellKind → List Step → Code
code n parameters steps = record { name = n ∷ []; parameters = parameters; result = Some is_int; steps = steps }

abbrev n : ℤ → Instr
n z = i.Push (constant.Number (int type.Int z))

abbrev add : Instr
add = i.Strict (op.Binary two.Add)

-- the value, the rule and its place, and how many turns are left; of a violation the frames too
data Seen : Type 0 where
  Gives : Cells → ℕ → Seen
  Breaks : Rule → Span → List Frame → ℕ → Seen
  Stops : Seen

abbrev seen : Out Cells → Seen
seen (Value cs s) = Gives cs s.left
seen (Violation r at s) = Breaks r at s.memory.frames s.left
seen Stuck = Stops

abbrev number : ℤ → Cells
number z = Held (scalar.Int (int type.Int z)) ∷ []

abbrev run : Codes → ℕ → List Step → Seen
run codes left steps = seen (CodeMeans (with_depth 2 9 codes) (code 1 [] steps) [] (start left))

-- a value returned
returns : run [] 0 (by 1 (n (pos 7)) ∷ by 2 i.Return ∷ []) ≡ Gives (number (pos 7)) 0
returns = refl

-- no result
leaves : run [] 0 (by 1 i.Leave ∷ []) ≡ Gives [] 0
leaves = refl

-- the way out of a function's end
flows_off : run [] 0 (by 1 (i.Break rule.FlowOff) ∷ []) ≡ Breaks rule.FlowOff (line 1) [] 0
flows_off = refl

throws : run [] 0 (by 1 (n (pos 7)) ∷ by 2 (i.Break rule.Throw) ∷ by 3 i.Return ∷ []) ≡ Breaks rule.Throw (line 2) [] 0
throws = refl

-- the code's end is no way out
runs_out : run [] 0 (by 1 (n (pos 7)) ∷ []) ≡ Stops
runs_out = refl

-- nor is a missing operand
lacks_operand : run [] 0 (by 1 i.Return ∷ []) ≡ Stops
lacks_operand = refl

-- 2147483647 + 1
overflows : run [] 0 (by 1 (n (pos 2147483647)) ∷ by 2 (n (pos 1)) ∷ by 3 add ∷ by 4 i.Return ∷ []) ≡ Breaks rule.Overflow (line 3) [] 0
unfolding operation delivered fits least greatest is_signed width converted reduce common common_promoted mixed higher rank promote
overflows = refl

-- a jump over a step, taken for 0 and not for 1: places are counted from the end
chooses : ℤ → List Step
chooses z = by 1 (n z) ∷ by 2 (i.Unless 2) ∷ by 3 (n (pos 5)) ∷ by 4 i.Return ∷ by 5 (n (pos 6)) ∷ by 6 i.Return ∷ []

takes_else : run [] 0 (chooses (pos 0)) ≡ Gives (number (pos 6)) 0
unfolding chooses
takes_else = refl

takes_then : run [] 0 (chooses (pos 1)) ≡ Gives (number (pos 5)) 0
unfolding chooses
takes_then = refl

-- The sum of 3 ones, counted down from 3: a jump to the test, the body, and the test with a turn back to the body. On the
-- stack are the sum and above it what is left.
abbrev loop : List Step
loop =
    by 1 (n (pos 0)) ∷ by 2 (n (pos 3)) ∷ by 3 (i.Go 5)
    ∷ by 4 (n (negsuc 0)) ∷ by 5 add ∷ by 6 (i.Shuffle shuffle.Swap) ∷ by 7 (n (pos 1)) ∷ by 8 add ∷ by 9 (i.Shuffle shuffle.Swap)
    ∷ by 10 (i.Shuffle (shuffle.Copy 0)) ∷ by 11 (i.Unless 2) ∷ by 12 (i.Turn 11)
    ∷ by 13 (i.Shuffle shuffle.Pop) ∷ by 14 i.Return ∷ []

-- three turns
loops : run [] 5 loop ≡ Gives (number (pos 3)) 2
unfolding operation delivered fits least greatest is_signed width converted reduce common common_promoted mixed higher rank promote
loops = refl

three_turns : run [] 3 loop ≡ Gives (number (pos 3)) 0
unfolding operation delivered fits least greatest is_signed width converted reduce common common_promoted mixed higher rank promote
three_turns = refl

-- the third is missing
two_turns : run [] 2 loop ≡ Breaks rule.LimitTurns (line 12) [] 0
unfolding operation delivered fits least greatest is_signed width converted reduce common common_promoted mixed higher rank promote
two_turns = refl

-- ---- calls

abbrev var : ℕ → Root
var k = root.Variable (record { 0 = k })

-- `int g(int x) { return x + 1; }`: the parameter is made an object, which is released at the end
abbrev successor : Code
successor = code 2 (is_int ∷ []) (by 20 (i.Make (making.Object (record { 0 = 0 }) made.Auto false)) ∷ by 21 (i.Access access.Init) ∷ by 22 (i.Name (name.Bind (var 0)))
    ∷ by 23 (i.Name (name.Local (var 0))) ∷ by 24 (i.Access access.Load) ∷ by 25 (n (pos 1)) ∷ by 26 add
    ∷ by 27 (i.Name (name.End (var 0))) ∷ by 28 i.Return ∷ [])

-- `int h(int x) { return g(x); }`
abbrev through : Code
through = code 3 (is_int ∷ []) (by 30 (call 0) ∷ by 31 i.Return ∷ [])
  where
    call : ℕ → Instr
    call f = i.Call (record { to = called.Function (record { 0 = f }); parameters = is_int ∷ []; result = Some is_int })

abbrev codes : Codes
codes = Some (Some successor) ∷ Some (Some through) ∷ Some None ∷ None ∷ []

abbrev calls : ℕ → List Step
calls f = by 1 (n (pos 40)) ∷ by 2 (i.Call (record { to = called.Function (record { 0 = f }); parameters = is_int ∷ []; result = Some is_int })) ∷ by 3 i.Return ∷ []

calls_once : run codes 1 (calls 0) ≡ Gives (number (pos 41)) 0
unfolding asked looked most_levels operation delivered fits least greatest is_signed width converted reduce common common_promoted mixed higher rank promote
calls_once = refl

calls_twice : run codes 2 (calls 1) ≡ Gives (number (pos 41)) 0
unfolding asked looked most_levels operation delivered fits least greatest is_signed width converted reduce common common_promoted mixed higher rank promote
calls_twice = refl

-- the second call has no turn left, and is told with the frame of the first
call_without_turn : run codes 1 (calls 1) ≡ Breaks rule.LimitTurns (line 30) (record { span = line 2; name = 3 ∷ [] } ∷ []) 0
call_without_turn = refl

-- a violation in a callee, with its frames, innermost first
callee_overflows : run codes 2 (by 1 (n (pos 2147483647)) ∷ by 2 (i.Call (record { to = called.Function (record { 0 = 1 }); parameters = is_int ∷ []; result = Some is_int })) ∷ by 3 i.Return ∷ []) ≡ Breaks rule.Overflow (line 26) (record { span = line 30; name = 2 ∷ [] } ∷ record { span = line 2; name = 3 ∷ [] } ∷ []) 0
unfolding asked looked most_levels operation delivered fits least greatest is_signed width converted reduce common common_promoted mixed higher rank promote
callee_overflows = refl

too_deep : seen (CodeMeans (with_depth 1 9 codes) (code 1 [] (calls 1)) [] (start 5)) ≡ Breaks rule.LimitDepth (line 30) (record { span = line 2; name = 3 ∷ [] } ∷ []) 4
too_deep = refl

not_constexpr : run codes 2 (calls 2) ≡ Breaks rule.NonConstexprCall (line 2) [] 2
not_constexpr = refl

undefined : run codes 2 (calls 3) ≡ Breaks rule.UndefinedFunction (line 2) [] 2
undefined = refl

never_put : run codes 2 (calls 4) ≡ Breaks rule.UndefinedFunction (line 2) [] 2
never_put = refl

-- a default member initializer takes a turn, and has no frame and no depth
abbrev uses : ℕ → List Step
uses f = by 1 (n (pos 2147483647)) ∷ by 2 (i.Call (record { to = called.Initializer (record { 0 = f }); parameters = is_int ∷ []; result = Some is_int })) ∷ by 3 i.Return ∷ []

initializer_overflows : run codes 1 (uses 0) ≡ Breaks rule.Overflow (line 26) [] 0
unfolding asked looked most_levels operation delivered fits least greatest is_signed width converted reduce common common_promoted mixed higher rank promote
initializer_overflows = refl

initializer_without_turn : run codes 0 (uses 0) ≡ Breaks rule.LimitTurns (line 2) [] 0
initializer_without_turn = refl

initializer_undefined : run codes 1 (uses 3) ≡ Breaks rule.UndefinedFunction (line 2) [] 1
initializer_undefined = refl

-- full-expressions
counted_once : seen (CodeMeans (with_depth 2 1 []) (code 1 [] (by 1 i.Count ∷ by 2 i.Count ∷ by 3 i.Leave ∷ [])) [] (start 0)) ≡ Breaks rule.LimitExprs (line 2) [] 0
counted_once = refl
