use Rattle.std.proofs.Common.{◌≡◌, ◌+◌, ℕ, List, drop, length}
use Rattle.cx_tokens.specs.Marks.{Counts}
use Rattle.cx_tokens.specs.Reached.{Reached}
use Rattle.cx_tokens.proofs.Going.{Comes}
use Rattle.cx_tokens.proofs.lexer.finish.Given as goal

abbrev pub invariant-pieces : goal.invariant-pieces
invariant-pieces l = (l.here.at + length l.left ≡ l.fn.start.at + length l.rest) × Counts l.here.mark l.here.at
    × ((bytes : List ℕ) → drop l.fn.start.at bytes ≡ l.rest → Reached bytes l.fn.start l.fn.tokens → Comes bytes l.left l.here l.tokens)

abbrev pub decreases-pieces : goal.decreases-pieces
decreases-pieces l = length l.left
