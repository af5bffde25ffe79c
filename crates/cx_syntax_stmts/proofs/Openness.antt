-- Which statements take an `else` behind them, form by form ([stmt.if]).
use Rattle.std.proofs.Common.{◌≡◌, ℕ, true, false, List, Option, Some, None, rules}
use Rattle.cx_base.specs.declared.diag.Span.{Span}
use Rattle.cx_tree.specs.declared.exprs.Expr.{Expr}
use Rattle.cx_tree.specs.declared.stmts.Block.{Block}
use Rattle.cx_tree.specs.declared.stmts.Item.TheVariants as i
use Rattle.cx_tree.specs.declared.stmts.Returned.{Returned}
use Rattle.cx_tree.specs.declared.stmts.Stmt as stmts
use Rattle.cx_tree.specs.declared.stmts.Stmt.{Stmt}
use Rattle.cx_tree.specs.declared.stmts.StmtKind.{StmtKind}
use Rattle.cx_tree.specs.declared.stmts.StmtKind.TheVariants as kinds
use Rattle.cx_tree.specs.declared.stmts.SwitchItem.{SwitchItem}
use Rattle.cx_syntax_stmts.specs.declared.parts.ForHead.{ForHead}
use Rattle.cx_syntax_stmts.specs.declared.parts.ForHead.TheVariants as head
use Rattle.cx_syntax_stmts.specs.Values.{Condition, takes_else, kind_takes_else, item_takes_else, if_of, while_of, do_of, for_by, switch_of, stmt_of}

-- the attributes change nothing
pub takes_stmt : (u : (ℕ × StmtKind) × Span) → takes_else (stmt_of u) ≡ kind_takes_else u.0.1
takes_stmt u = search (rules, stmts.the_lemmas)

-- an `if` without `else`, and one with it
pub takes_if : (c : Condition) → kind_takes_else (if_of (c, None)) ≡ true
takes_if c = search (rules, stmts.the_lemmas)

pub takes_other : (c : Condition) (s : Stmt) → kind_takes_else (if_of (c, Some s)) ≡ takes_else s
takes_other c s = search (rules, stmts.the_lemmas)

-- loops end in a statement
pub takes_while : (u : Span × (Expr × Stmt)) → kind_takes_else (while_of u) ≡ takes_else u.1.1
takes_while u = search (rules, stmts.the_lemmas)

pub takes_for_by : (at : Span) (h : ForHead) (s : Stmt) → kind_takes_else (for_by at h s) ≡ takes_else s
takes_for_by at (head.Steps start e change) s = search (rules, stmts.the_lemmas)
takes_for_by at (head.Range specs ptrs name e) s = search (rules, stmts.the_lemmas)

-- an item that is a statement
pub takes_stmt_item : (s : Stmt) → item_takes_else (i.Stmt s) ≡ takes_else s
takes_stmt_item s = search (rules, stmts.the_lemmas)

-- the statements that end in a token of their own
pub takes_block : (b : Block) → kind_takes_else (kinds.Block b) ≡ false
takes_block b = search (rules, stmts.the_lemmas)

pub takes_empty : kind_takes_else kinds.Empty ≡ false
takes_empty = search (rules, stmts.the_lemmas)

pub takes_expr : (e : Expr) → kind_takes_else (kinds.Expr e) ≡ false
takes_expr e = search (rules, stmts.the_lemmas)

pub takes_do : (u : Span × (Stmt × Expr)) → kind_takes_else (do_of u) ≡ false
takes_do u = search (rules, stmts.the_lemmas)

pub takes_switch : (u : Expr × List SwitchItem) → kind_takes_else (switch_of u) ≡ false
takes_switch u = search (rules, stmts.the_lemmas)

pub takes_break : (at : Span) → kind_takes_else (kinds.Break at) ≡ false
takes_break at = search (rules, stmts.the_lemmas)

pub takes_continue : (at : Span) → kind_takes_else (kinds.Continue at) ≡ false
takes_continue at = search (rules, stmts.the_lemmas)

pub takes_return : (v : Option Returned) → kind_takes_else (kinds.Return v) ≡ false
takes_return v = search (rules, stmts.the_lemmas)
