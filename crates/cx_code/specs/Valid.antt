-- When code is valid: every way to an instruction finds the same kinds of operands and locals, with what it takes.
use Rattle.std.specs.Prelude.{◌≡◌, ℕ, ◌+◌, ◌<◌, ◌≤◌, List, [], ◌∷◌, ◌++◌, length, reverse, Option, Some}
use Rattle.cx_type_defs.specs.Tables.{Tables}
use Rattle.cx_code.specs.declared.code.CellKind.{CellKind}
use Rattle.cx_code.specs.declared.code.Code.{Code}
use Rattle.cx_code.specs.declared.code.Step.{Step}
use Rattle.cx_code.specs.declared.instr.Instr.{Instr}
use Rattle.cx_code.specs.declared.way.Way.{Way}
use Rattle.cx_code.specs.declared.way.Way.TheVariants as w
use Rattle.cx_code.specs.Ways.{way}
use Rattle.cx_code.specs.Shapes.{Shape, Fits}

-- the shape at each place that a way leads to
abbrev pub Shapes : Type 0
Shapes = ℕ → Option Shape

-- to a place inside the code, that has this shape
abbrev pub Leads : Shapes → ℕ → Shape → Type 0
Leads shapes to next = (0 < to) × (shapes to ≡ Some next)

-- Where the ways of an instruction lead, with the shape behind it; `here` is the next place, and `all` the first one of
-- the code. On it goes forward, and back for a turn alone.
abbrev pub Goes : Shapes → ℕ → ℕ → Way → Shape → Type 0
Goes shapes all here w.Forth next = Leads shapes here next
Goes shapes all here (w.Jump to) next = (to ≤ here) × Leads shapes to next
Goes shapes all here (w.Either to) next = (to ≤ here) × Leads shapes to next × Leads shapes here next
Goes shapes all here (w.Back to) next = (here < to) × (to ≤ all) × Leads shapes to next
Goes shapes all here w.End next = Unit {0}

-- the operands are there, and each way on is inside
pub record IsFine (t : Tables) (result : Option CellKind) (shapes : Shapes) (all here : ℕ) (x : Instr) (before : Shape) : Type 0 where
  pub next : Shape
  pub fits : Fits t result x before next
  pub goes : Goes shapes all here (way x) next

pub record HasShapes (t : Tables) (c : Code) (shapes : Shapes) : Type 0 where
  pub some : 0 < length c.steps
  pub start : shapes (length c.steps) ≡ Some (record { kinds = reverse c.parameters; locals = [] })
  pub each : (before rest : List Step) (x : Step) (sh : Shape) → c.steps ≡ before ++ x ∷ rest → shapes (length rest + 1) ≡ Some sh → IsFine t c.result shapes (length c.steps) (length rest) x.instr sh

abbrev pub Valid : Tables → Code → Type 0
Valid t c = (shapes : Shapes) × HasShapes t c shapes
