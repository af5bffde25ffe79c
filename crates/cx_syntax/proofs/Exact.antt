-- All readers are exact at each number of levels.
use Rattle.std.proofs.Common.{◌≡◌, ℕ, zero, suc, true}
use Rattle.cx_grammar.specs.Sets.{by}
use Rattle.cx_grammar.proofs.Steps.{Exactly}
use Rattle.cx_grammar.proofs.Levels.{exactly_below}
use Rattle.cx_syntax.specs.Grammar as g
use Rattle.cx_syntax.specs.Readers as r
use Rattle.cx_syntax.proofs.Basics.{at}
use Rattle.cx_syntax.specs.Goes.{goes_operand, goes_assign, goes_args}
use Rattle.cx_syntax.proofs.Depth as h
use Rattle.cx_syntax.proofs.Lists.{Sound, exactly_braces}
use Rattle.cx_syntax.proofs.Casts.{exactly_cast}
use Rattle.cx_syntax.proofs.Sizeof as sizes
use Rattle.cx_syntax.proofs.Chains as chains
use Rattle.cx_syntax.proofs.Exprs as exprs
use Rattle.cx_syntax.proofs.Near.{near}

module _ (left : ℕ) (d : Sound left) where
  pub unary_at : Exactly (λ n. g.unary (g.deeper n)) (goes_operand 0) left (r.unary (r.deeper left))
  unary_at = sizes.exactly_unary near left d

  pub cast_at : Exactly (λ n. g.cast (g.deeper n)) (goes_operand 0) left (r.cast (r.deeper left))
  cast_at = exactly_cast left d unary_at

  pub chain_at : (p : ℕ) → Exactly (λ n. g.chain (g.deeper n) p) (goes_operand p) left (r.chain (r.deeper left) p)
  chain_at = chains.exactly_chain left cast_at

pub none_there : (r.deeper 0).room ≡ true → ⊥
unfolding r.deeper
none_there e = cc

-- the readers one level deeper are exact
pub sound : (left : ℕ) → Sound left
unfolding r.deeper
sound zero = record {
  expr = λ e. absurd (none_there e);
  assign = λ e. absurd (none_there e);
  cond = λ e. absurd (none_there e);
  cast = λ e. absurd (none_there e);
  unary = λ e. absurd (none_there e);
  braces = λ e. absurd (none_there e);
}
sound (suc left) = let d = sound left in record {
  expr = λ e. exactly_below h.below_expr (exprs.exactly_expr left d (chain_at left d 10));
  assign = λ e. exactly_below h.below_assign (exprs.exactly_assign left d (chain_at left d 10));
  cond = λ e. exactly_below h.below_cond (exprs.exactly_cond left d (chain_at left d 10));
  cast = λ e. exactly_below h.below_cast (cast_at left d);
  unary = λ e. exactly_below h.below_unary (unary_at left d);
  braces = λ e. exactly_below h.below_braces (exactly_braces left d);
}

-- ---- each rule, with so many levels left

pub exactly_unary : (left : ℕ) → Exactly (λ n. g.unary (g.deeper n)) (goes_operand 0) left (r.unary (r.deeper left))
exactly_unary left = unary_at left (sound left)

pub exactly_casts : (left : ℕ) → Exactly (λ n. g.cast (g.deeper n)) (goes_operand 0) left (r.cast (r.deeper left))
exactly_casts left = cast_at left (sound left)

pub exactly_chain : (left p : ℕ) → Exactly (λ n. g.chain (g.deeper n) p) (goes_operand p) left (r.chain (r.deeper left) p)
exactly_chain left p = chain_at left (sound left) p

pub exactly_assign : (left : ℕ) → Exactly (λ n. g.assign (g.deeper n)) (by (at goes_assign)) left (r.assign (r.deeper left))
exactly_assign left = exprs.exactly_assign left (sound left) (chain_at left (sound left) 10)

pub exactly_cond : (left : ℕ) → Exactly (λ n. g.cond (g.deeper n)) (by (at goes_assign)) left (r.cond (r.deeper left))
exactly_cond left = exprs.exactly_cond left (sound left) (chain_at left (sound left) 10)

pub exactly_expr : (left : ℕ) → Exactly (λ n. g.expr (g.deeper n)) (by (at goes_args)) left (r.expr (r.deeper left))
exactly_expr left = exprs.exactly_expr left (sound left) (chain_at left (sound left) 10)
