-- Worked cases: calls within calls, and what is told where one is too many ([implimits]).
use Rattle.std.proofs.Common.{◌≡◌, ℕ, List, [], ◌∷◌, refl}
use Rattle.cx_base.specs.declared.rule.Rule.TheVariants as rule
use Rattle.cx_base.specs.declared.diag.Mark.{Mark}
use Rattle.cx_base.specs.declared.diag.Span.{Span}
use Rattle.cx_base.specs.declared.diag.Frame.{Frame}
use Rattle.cx_state.specs.declared.root.Root.TheVariants as root
use Rattle.cx_state.specs.declared.root.JudgeMode.TheVariants as mode
use Rattle.cx_state.specs.States.{Setting, State, Out, Value, Violation, enter, bound}
use Rattle.std.proofs.Common.{None, Some}

abbrev mark : ℕ → ℕ → Mark
mark line col = record { byte = 0; line = line; col = col }

abbrev span : ℕ → Span
span line = record { start = mark line 1; end = mark line 2 }

-- `f`, which is called in line 1, calls `g` in line 2
abbrev call : ℕ → Frame
call line = record { span = span line; name = line ∷ [] }

abbrev with_depth : ℕ → Setting
with_depth n = record { limits = record { depth = n; exprs = 9; turns = 9; cells = 9; objects = 9 }; mode = mode.Constant }

abbrev state : List Frame → ℕ → State
state frames left = record { memory = record { objects = []; bindings = []; frames = frames; allocations = []; exprs = 0 }; left = left }

abbrev run : ℕ → ℕ → Out (Unit {0})
run depth turns = enter (with_depth depth) (call 1) (state [] turns) (λ s. enter (with_depth depth) (call 2) s (λ u. Value tt u))

-- two calls and two turns
both_calls : run 2 2 ≡ Value tt (state (call 2 ∷ call 1 ∷ []) 0)
both_calls = refl

-- one turn: it is missing at the call of `g`, with the frame of `f` alone
one_turn : run 2 1 ≡ Violation rule.LimitTurns (span 2) (state (call 1 ∷ []) 0)
one_turn = refl

-- no turn: no frame
no_turn : run 2 0 ≡ Violation rule.LimitTurns (span 1) (state [] 0)
no_turn = refl

-- a depth of one: the call of `g` is too many, and takes no turn
one_deep : run 1 2 ≡ Violation rule.LimitDepth (span 2) (state (call 1 ∷ []) 1)
one_deep = refl

-- the depth is asked before the turns
depth_first : run 1 1 ≡ Violation rule.LimitDepth (span 2) (state (call 1 ∷ []) 0)
depth_first = refl

-- names: two temporaries at one byte in different lines are two
other_line : bound ((root.Temporary (mark 1 1), 4) ∷ []) (root.Temporary (mark 2 1)) ≡ None
other_line = refl

-- and one is found by its mark
same_line : bound ((root.Temporary (mark 1 1), 4) ∷ (root.Temporary (mark 2 1), 5) ∷ []) (root.Temporary (mark 2 1)) ≡ Some 5
same_line = refl

-- a literal there is no temporary
no_temporary : bound ((root.Literal (mark 1 1), 4) ∷ []) (root.Temporary (mark 1 1)) ≡ None
no_temporary = refl
