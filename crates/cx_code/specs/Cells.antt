-- Operands, where an instruction leads, and taking operands off the stack.
use Rattle.std.specs.Prelude.{ℕ, List, ◌∷◌}
use Rattle.cx_ints.specs.declared.int.Int.{Int}
use Rattle.cx_type_defs.specs.declared.ids.FuncId.{FuncId}
use Rattle.cx_state.specs.declared.kind.Scalar.{Scalar}
use Rattle.cx_state.specs.declared.kind.Scalar.TheVariants as scalar
use Rattle.cx_state.specs.Objects.{Path}
use Rattle.cx_state.specs.States.{Memory, Op, Done, Broken, Wrong}

-- a value, or where something is
pub data Cell : Type 0 where
  Held : Scalar Path → Cell
  At : Path → Cell

abbrev pub Cells : Type 0
Cells = List Cell

-- what a call begins: a function, or a default member initializer
pub data Begun : Type 0 where
  Function : FuncId → Begun
  Initializer : FuncId → Begun

-- Where an instruction leads: to the next one, to a place further on, back for a turn, into a call with its arguments
-- and the operands below them, or out of this call with its result.
pub data Move : Type 0 where
  Forth : Cells → Move
  Jump : ℕ → Cells → Move
  Back : ℕ → Cells → Move
  Enter : Begun → Cells → Cells → Move
  Leave : Cells → Move

-- a step and what is made of what it finds

abbrev pub op_then : {A B : Type 0} → Op A → (A → Memory → Op B) → Op B
op_then (Done a m) go = go a m
op_then (Broken r) go = Broken r
op_then Wrong go = Wrong

abbrev pub op_map : {A B : Type 0} → Op A → (A → B) → Op B
op_map (Done a m) f = Done (f a) m
op_map (Broken r) f = Broken r
op_map Wrong f = Wrong

-- the operand on top, and those below it

abbrev pub on_value : Cells → (Scalar Path → Cells → Op Move) → Op Move
on_value (Held v ∷ cs) go = go v cs
on_value _ go = Wrong

abbrev pub on_number : Cells → (Int → Cells → Op Move) → Op Move
on_number (Held (scalar.Int a) ∷ cs) go = go a cs
on_number _ go = Wrong

abbrev pub on_place : Cells → (Path → Cells → Op Move) → Op Move
on_place (At p ∷ cs) go = go p cs
on_place _ go = Wrong

-- on with one operand more
abbrev pub forth_with : Cells → Op Cell → Op Move
forth_with cs found = op_map found (λ c. Forth (c ∷ cs))

-- on with a value or a place more

abbrev pub forth_value : Cells → Op (Scalar Path) → Op Move
forth_value cs found = op_map found (λ v. Forth (Held v ∷ cs))

abbrev pub forth_place : Cells → Op Path → Op Move
forth_place cs found = op_map found (λ p. Forth (At p ∷ cs))

-- on with these operands, once a step is done
abbrev pub forth : Cells → Op (Unit {0}) → Op Move
forth cs done = op_map done (λ _. Forth cs)
