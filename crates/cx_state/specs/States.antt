-- The state of an evaluation, what an evaluation gives, and the steps that it is made of ([expr.const],
-- [intro.execution], [implimits]).
use Rattle.std.specs.Prelude.{ℕ, zero, suc, ◌+◌, ◌==◌, nat_lt, Bool, false, ◌&&◌, List, ◌∷◌, length, Option, Result, Ok, Err, option_map, if◌then◌else◌}
use Rattle.std.specs.List.{find}
use Rattle.cx_base.specs.declared.diag.Mark.{Mark}
use Rattle.cx_base.specs.declared.diag.Span.{Span}
use Rattle.cx_base.specs.declared.diag.Frame.{Frame}
use Rattle.cx_base.specs.declared.rule.Rule.{Rule}
use Rattle.cx_base.specs.declared.rule.Rule.TheVariants as rule
use Rattle.cx_base.specs.declared.limits.Limits.{Limits}
use Rattle.cx_state.specs.declared.root.Root.{Root}
use Rattle.cx_state.specs.declared.root.Root.TheVariants as root
use Rattle.cx_state.specs.declared.root.JudgeMode.{JudgeMode}
use Rattle.cx_state.specs.Objects.{Objects}

-- what stays the same all through an evaluation
pub record Setting : Type 0 where
  pub limits : Limits
  pub mode : JudgeMode

-- what a new-expression made and no delete-expression freed: the object's number, and where the new-expression stands
pub record Allocation : Type 0 where
  pub object : ℕ
  pub at : Span

-- All that a step may change, save the turns: the objects; which object each name stands for, newest first; the calls
-- that haven't returned, innermost first; the allocations that aren't freed, in order; and the full-expressions so far.
pub record Memory : Type 0 where
  pub objects : Objects
  pub bindings : List (Root × ℕ)
  pub frames : List Frame
  pub allocations : List Allocation
  pub exprs : ℕ

-- with the turns that are left
pub record State : Type 0 where
  pub memory : Memory
  pub left : ℕ

-- A value and a new state, or the first violation with its span and the state that it came in, whose frames are those of
-- the diagnostic. `Stuck` is for what isn't well typed.
pub data Out (A : Type 0) : Type 0 where
  Value : A → State → Out A
  Violation : Rule → Span → State → Out A
  Stuck : Out A

-- goes on from a value
abbrev pub then_do : {A B : Type 0} → Out A → (A → State → Out B) → Out B
then_do (Value a s) go = go a s
then_do (Violation r at s) go = Violation r at s
then_do Stuck go = Stuck

-- what a step on the memory gives; one that breaks a rule changes nothing
pub data Op (A : Type 0) : Type 0 where
  Done : A → Memory → Op A
  Broken : Rule → Op A
  Wrong : Op A

-- a step at a place of the text
abbrev pub does : {A : Type 0} → Span → State → Op A → Out A
does at s (Done a m) = Value a (record { memory = m; left = s.left })
does at s (Broken r) = Violation r at s
does at s Wrong = Stuck

abbrev pub step : {A : Type 0} → Span → (Memory → Op A) → State → Out A
step at op s = does at s (op s.memory)

-- a step on the objects that finds something, and one that changes them

abbrev pub found : {A : Type 0} → Memory → Result A Rule → Op A
found m (Ok a) = Done a m
found m (Err r) = Broken r

abbrev pub with_objects : Memory → Result Objects Rule → Op (Unit {0})
with_objects m (Ok os) = Done tt (record m { objects = os })
with_objects m (Err r) = Broken r

abbrev pub finds : {A : Type 0} → (Objects → Result A Rule) → Memory → Op A
finds look m = found m (look m.objects)

abbrev pub changes : (Objects → Result Objects Rule) → Memory → Op (Unit {0})
changes change m = with_objects m (change m.objects)

-- names

abbrev pub same_mark : Mark → Mark → Bool
same_mark a b = (a.byte == b.byte) && (a.line == b.line) && (a.col == b.col)

abbrev pub same_root : Root → Root → Bool
same_root (root.Variable a) (root.Variable b) = a.0 == b.0
same_root (root.Temporary a) (root.Temporary b) = same_mark a b
same_root (root.Literal a) (root.Literal b) = same_mark a b
same_root _ _ = false

-- the object that a name stands for
abbrev pub bound : List (Root × ℕ) → Root → Option ℕ
bound bs r = option_map (λ b. b.1) (find (λ (b : Root × ℕ). same_root b.0 r) bs)

-- from here on the name stands for this object
abbrev pub bind : Root → ℕ → Memory → Op (Unit {0})
bind r n m = Done tt (record m { bindings = (r, n) ∷ m.bindings })

-- counts, each with its rule exactly where the next unit would pass the limit's number

-- one more full-expression
abbrev pub count : Setting → Memory → Op (Unit {0})
count g m = if nat_lt m.exprs g.limits.exprs then Done tt (record m { exprs = m.exprs + 1 }) else Broken rule.LimitExprs

-- one more turn
abbrev pub turn_left : {A : Type 0} → ℕ → Span → Memory → (State → Out A) → Out A
turn_left zero at m go = Violation rule.LimitTurns at (record { memory = m; left = zero })
turn_left (suc l) at m go = go (record { memory = m; left = l })

abbrev pub turn : {A : Type 0} → Span → State → (State → Out A) → Out A
turn at s go = turn_left s.left at s.memory go

-- Calls that haven't returned. Whether one more may begin is asked before its turn is counted, and its frame is pushed
-- only then: so a call that is one too many is told with the frames of the calls around it.

abbrev pub within_depth : Setting → Memory → Op (Unit {0})
within_depth g m = if nat_lt (length m.frames) g.limits.depth then Done tt m else Broken rule.LimitDepth

abbrev pub push_frame : Frame → Memory → Op (Unit {0})
push_frame f m = Done tt (record m { frames = f ∷ m.frames })

-- a call begins, by the depth, the turn and the frame, and goes on
abbrev pub enter : {A : Type 0} → Setting → Frame → State → (State → Out A) → Out A
enter g f s go = then_do (step f.span (within_depth g) s) (λ _ a. turn f.span a (λ b. then_do (step f.span (push_frame f) b) (λ _ c. go c)))
