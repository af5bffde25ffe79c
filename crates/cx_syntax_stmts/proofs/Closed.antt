-- Where a statement was read and an `else` comes next, no `if` in it can take that `else` ([stmt.if]).
use Rattle.std.proofs.Common.{◌≡◌, ℕ, zero, suc, Bool, true, Option, Some, None, ◌∙◌}
use Rattle.cx_grammar.specs.Reading.{Reader, ◌>>◌, ◌⊳◌, ◌⊲◌}
use Rattle.cx_tree.specs.declared.stmts.Stmt.{Stmt}
use Rattle.cx_tree.specs.declared.stmts.StmtKind.TheVariants as kinds
use Rattle.cx_syntax.specs.declared.class.Class.TheVariants as k
use Rattle.cx_syntax.specs.declared.lexeme.Lexeme.{Lexeme}
use Rattle.cx_syntax.specs.Classes.{is}
use Rattle.cx_syntax.specs.Readers.{just}
use Rattle.cx_syntax.specs.Values.{span_of}
use Rattle.cx_syntax_parts.specs.Readers.{attrs}
use Rattle.cx_syntax_stmts.specs.Readers as r
use Rattle.cx_syntax_stmts.specs.Values.{Condition, takes_else, kind_takes_else, if_of, while_of, do_of, for_of, switch_of, stmt_of}
use Rattle.cx_syntax_stmts.proofs.Closing.{Closes, closes_all, closes_as, closes_both, closes_before, closes_measured, closes_choose, closes_guarded, closes_tail, not_done}
use Rattle.cx_syntax_stmts.proofs.Openness as o

-- two ways to say which values take an `else`
pub closes_same : {A : Type 0} {takes other : A → Bool} {read : Reader Lexeme A} → ((v : A) → takes v ≡ other v) → Closes other read → Closes takes read
closes_same same_test c = record { at = λ ts rest v e s. same_test v ∙ c.at ts rest v e s }

abbrev tail_takes : Condition × Option Stmt → Bool
tail_takes (c, None) = true
tail_takes (c, Some b) = takes_else b

if_takes : (v : Condition × Option Stmt) → kind_takes_else (if_of v) ≡ tail_takes v
if_takes (c, None) = o.takes_if c
if_takes (c, Some b) = o.takes_other c b

module _ (n : ℕ) (d : r.Readers) (c : Closes takes_else d.stmt) where
  pub closes_if : Closes kind_takes_else (r.if_stmt n d)
  unfolding r.if_stmt
  closes_if = closes_guarded (r.room n) (closes_as if_of (closes_same if_takes (closes_tail (r.if_part n d) (λ a. closes_before (is k.Else) c))))

  pub closes_while : Closes kind_takes_else (r.while_stmt n d)
  unfolding r.while_stmt
  closes_while = closes_guarded (r.room n) (closes_as while_of (closes_same o.takes_while (closes_both (r.place k.While) (closes_both (r.condition n) c))))

  pub closes_for : Closes kind_takes_else (r.for_stmt n d)
  unfolding r.for_stmt
  closes_for = closes_guarded (r.room n) (closes_as for_of (closes_same (λ v. o.takes_for_by v.0.0 v.0.1 v.1) (closes_both (r.place k.For >> is k.OpenParen ⊳ r.for_head n ⊲ is k.CloseParen) c)))

  pub closes_do : Closes kind_takes_else (r.do_stmt n d)
  unfolding r.do_stmt
  closes_do = closes_guarded (r.room n) (closes_as do_of (closes_all o.takes_do))

  pub closes_switch : Closes kind_takes_else (r.switch_stmt n d)
  unfolding r.switch_stmt
  closes_switch = closes_guarded (r.room n) (closes_as switch_of (closes_all o.takes_switch))

  pub closes_jump : Closes kind_takes_else (r.jump_stmt n d)
  unfolding r.jump_stmt r.break_stmt r.continue_stmt r.return_stmt r.expr_stmt
  closes_jump = closes_choose (just k.Break) (closes_as kinds.Break (closes_all o.takes_break)) (closes_choose (just k.Continue) (closes_as kinds.Continue (closes_all o.takes_continue))
      (closes_choose (just k.Return) (closes_as kinds.Return (closes_all o.takes_return)) (closes_as kinds.Expr (closes_all o.takes_expr))))

  pub closes_loop : Closes kind_takes_else (r.loop_stmt n d)
  unfolding r.loop_stmt
  closes_loop = closes_choose (just k.While) closes_while (closes_choose (just k.Do) closes_do (closes_choose (just k.For) closes_for (closes_choose (just k.Switch) closes_switch closes_jump)))

  pub closes_kind : Closes kind_takes_else (r.stmt_kind n d)
  unfolding r.stmt_kind r.empty_stmt
  closes_kind = closes_choose (just k.OpenBrace) (closes_as kinds.Block (closes_all o.takes_block)) (closes_choose (just k.Semicolon) (closes_as (λ _. kinds.Empty) (closes_all (λ _. o.takes_empty)))
      (closes_choose (just k.If) closes_if closes_loop))

  pub closes_stmt : Closes takes_else (r.stmt_with n d)
  unfolding r.stmt_with
  closes_stmt = closes_as stmt_of (closes_same o.takes_stmt (closes_measured span_of (closes_both (attrs n) closes_kind)))

pub closed_below : (n : ℕ) → Closes takes_else (r.deeper n).stmt
unfolding r.deeper
closed_below zero = record { at = λ ts rest v e s. not_done e }
closed_below (suc n) = closes_stmt n (r.deeper n) (closed_below n)
