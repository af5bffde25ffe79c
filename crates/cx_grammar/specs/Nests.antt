-- A function value that reads one level deeper, where there is one.
use Rattle.std.specs.Prelude.{ℕ, ◌-◌, ◌≤◌, List, Result}
use Rattle.std.specs.declared.alloc.Global.{Global}
use denote.Ref.{MutBor}
use Rattle.cx_grammar.specs.declared.stop.ParseStop.{ParseStop}
use Rattle.cx_grammar.specs.Reading.{Reader}
use Rattle.cx_grammar.specs.Reads.{Reads}

-- With so many levels left, a call with one level less is allowed where there is one, and reads what the reader reads.
pub record Nests {T A : Type 0} (read : ℕ → Reader T A) (left : ℕ) (pre : Global → MutBor (List T) → ℕ → Type 0)
    (post : Global → MutBor (List T) → ℕ → Result A ParseStop → MutBor (List T) → Type 0) : Type 0 where
  pub callable : 1 ≤ left → (alloc : Global) (old : MutBor (List T)) → pre alloc old (left - 1)
  pub reads : (alloc : Global) (old new : MutBor (List T)) (r : Result A ParseStop) → post alloc old (left - 1) r new → Reads (read (left - 1) old.now) r new.now
