use Rattle.std.proofs.Common.{◌≡◌, ◌+◌, ◌≤◌, ℕ, List, drop, length}
use Rattle.cx_tokens.specs.Cut.{found_at}
use Rattle.cx_tokens.specs.Marks.{Counts}
use Rattle.cx_tokens.specs.Reached.{Stands}
use Rattle.cx_tokens.specs.Shapes.{shape_of}
use Rattle.cx_tokens.proofs.Going.{Open}
use Rattle.cx_tokens.proofs.lexer.advance.Given as goal

abbrev pub invariant-pieces : goal.invariant-pieces
invariant-pieces l = (l.fn.start.at ≤ l.here.at) × (l.here.at + length l.left ≡ l.fn.start.at + length l.front) × Counts l.here.mark l.here.at
    × (l.shape ≡ shape_of (found_at l.here.opens l.left))
    × ((bytes : List ℕ) → drop l.fn.start.at bytes ≡ l.front → Stands bytes l.fn.start l.fn.tokens → Open bytes l.left l.here l.tokens)

abbrev pub decreases-pieces : goal.decreases-pieces
decreases-pieces l = length l.left
