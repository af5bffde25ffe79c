-- All readers of statements are exact at each number of levels.
use Rattle.std.proofs.Common.{ℕ, zero, suc}
use Rattle.cx_grammar.specs.Sets.{by, never}
use Rattle.cx_grammar.proofs.Steps.{Exactly}
use Rattle.cx_grammar.proofs.Levels.{exactly_below}
use Rattle.cx_syntax.proofs.Exact.{none_there}
use Rattle.cx_syntax_stmts.specs.Goes.{goes_stmt, goes_item}
use Rattle.cx_syntax_stmts.specs.Grammar as g
use Rattle.cx_syntax_stmts.specs.Readers as r
use Rattle.cx_syntax_stmts.proofs.Closed.{closed_below}
use Rattle.cx_syntax_stmts.proofs.Depth.{below_stmt, below_item}
use Rattle.cx_syntax_stmts.proofs.Items.{exactly_item_at}
use Rattle.cx_syntax_stmts.proofs.Stmts.{Sound, exactly_stmt_at, exactly_block_at}

-- the readers one level deeper are exact
pub sound : (left : ℕ) → Sound left
unfolding r.deeper
sound zero = record { stmt = λ e. absurd (none_there e); item = λ e. absurd (none_there e); closed = closed_below 0 }
sound (suc left) = record {
  stmt = λ e. exactly_below below_stmt (exactly_stmt_at left (sound left));
  item = λ e. exactly_below below_item (exactly_item_at left (sound left));
  closed = closed_below (suc left);
}

-- ---- each rule, with so many levels left

pub exactly_stmt : (left : ℕ) → Exactly (λ n. g.stmt n) goes_stmt left (r.stmt left)
exactly_stmt left = exactly_stmt_at left (sound left)

pub exactly_item : (left : ℕ) → Exactly (λ n. g.item n) goes_item left (r.item left)
exactly_item left = exactly_item_at left (sound left)

pub exactly_block : (left : ℕ) → Exactly (λ n. g.block n) (by never) left (r.block left)
exactly_block left = exactly_block_at left (sound left)
