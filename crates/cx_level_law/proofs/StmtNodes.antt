-- How many levels each form of a statement goes deep, from those of its parts ([stmt.stmt], [implimits]).
use Rattle.std.proofs.Common.{◌≡◌, ℕ, suc, max, Bool, List, Option, Some, None, map, arith, rules}
use Rattle.cx_base.specs.declared.diag.Span.{Span}
use Rattle.cx_tree.specs.declared.decls.Alias.{Alias}
use Rattle.cx_tree.specs.declared.decls.Assert.{Assert}
use Rattle.cx_tree.specs.declared.decls.Enumeration.{Enumeration}
use Rattle.cx_tree.specs.declared.decls.Typedef.{Typedef}
use Rattle.cx_tree.specs.declared.exprs.Expr.{Expr}
use Rattle.cx_tree.specs.declared.stmts.Block.{Block}
use Rattle.cx_tree.specs.declared.stmts.ForStart.{ForStart}
use Rattle.cx_tree.specs.declared.stmts.Item.{Item}
use Rattle.cx_tree.specs.declared.stmts.Item.TheVariants as i
use Rattle.cx_tree.specs.declared.stmts.Label.{Label}
use Rattle.cx_tree.specs.declared.stmts.Local.{Local}
use Rattle.cx_tree.specs.declared.stmts.Returned.{Returned}
use Rattle.cx_tree.specs.declared.stmts.Stmt as stmts
use Rattle.cx_tree.specs.declared.stmts.Stmt.{Stmt}
use Rattle.cx_tree.specs.declared.stmts.StmtKind.{StmtKind}
use Rattle.cx_tree.specs.declared.stmts.StmtKind.TheVariants as s
use Rattle.cx_tree.specs.declared.stmts.SwitchItem.{SwitchItem}
use Rattle.cx_tree.specs.declared.stmts.SwitchItem.TheVariants as sw
use Rattle.cx_levels.specs.ExprLevels.{levels_of_expr, levels_within}
use Rattle.cx_levels.specs.Levels.{deeper, perhaps}
use Rattle.cx_levels.specs.StmtLevels.{levels_of_alias, levels_of_assert, levels_of_block, levels_of_enumeration, levels_of_for_start, levels_of_item, levels_of_label, levels_of_local, levels_of_returned, levels_of_stmt, levels_of_stmt_kind, levels_of_switch_item}
use Rattle.cx_syntax.specs.Values.{is_there}
use Rattle.cx_syntax_stmts.specs.declared.parts.ForHead.{ForHead}
use Rattle.cx_syntax_stmts.specs.declared.parts.ForHead.TheVariants as head
use Rattle.cx_syntax_stmts.specs.Values.{Condition, if_of, while_of, do_of, for_by, for_of, switch_of, stmt_of, block_of}
use Rattle.cx_level_law.proofs.Counted.{of_all, one_more}
use Rattle.cx_level_law.proofs.ExprNodes.{deeper_all}

-- ---- numbers

three : (a b c : ℕ) → max a (max b c) ≡ max (max a b) c
three a b c = omega arith

four : (a b c d : ℕ) → max a (max b (max c d)) ≡ max (max a (max b c)) d
four a b c d = omega arith

-- ---- blocks, items and statements

block_items : (u : (List Item × Span) × Span) → levels_of_block (block_of u) ≡ deeper (map levels_of_item u.0.0)
block_items u = search (rules, stmts.the_lemmas)

pub block_levels : (u : (List Item × Span) × Span) → levels_of_block (block_of u) ≡ of_all (one_more levels_of_item) u.0.0
block_levels u = rw (block_items u) (deeper_all levels_of_item u.0.0)

pub stmt_levels : (u : (ℕ × StmtKind) × Span) → levels_of_stmt (stmt_of u) ≡ max u.0.0 (levels_of_stmt_kind u.0.1)
stmt_levels u = search (rules, stmts.the_lemmas)

pub stmt_item_levels : (x : Stmt) → levels_of_item (i.Stmt x) ≡ levels_of_stmt x
stmt_item_levels x = search (rules, stmts.the_lemmas)

pub assert_item_levels : (x : Assert) → levels_of_item (i.Assert x) ≡ levels_of_assert x
assert_item_levels x = search (rules, stmts.the_lemmas)

pub alias_item_levels : (x : Alias) → levels_of_item (i.Alias x) ≡ levels_of_alias x
alias_item_levels x = search (rules, stmts.the_lemmas)

pub typedef_item_levels : (x : Typedef) → levels_of_item (i.Typedef x) ≡ 0
typedef_item_levels x = search (rules, stmts.the_lemmas)

pub enum_item_levels : (x : Enumeration) → levels_of_item (i.Enum x) ≡ levels_of_enumeration x
enum_item_levels x = search (rules, stmts.the_lemmas)

pub local_item_levels : (x : Local) → levels_of_item (i.Local x) ≡ levels_of_local x
local_item_levels x = search (rules, stmts.the_lemmas)

pub label_levels : (x : Label) → levels_of_switch_item (sw.Label x) ≡ levels_of_label x
label_levels x = search (rules, stmts.the_lemmas)

pub switch_item_levels : (x : Item) → levels_of_switch_item (sw.Item x) ≡ suc (levels_of_item x)
switch_item_levels x = search (rules, stmts.the_lemmas)

-- ---- kinds of statements

pub block_kind_levels : (b : Block) → levels_of_stmt_kind (s.Block b) ≡ levels_of_block b
block_kind_levels b = search (rules, stmts.the_lemmas)

empty_is : levels_of_stmt_kind s.Empty ≡ 0
empty_is = search (rules, stmts.the_lemmas)

pub empty_levels : (u : Unit {0}) → levels_of_stmt_kind s.Empty ≡ 0
empty_levels u = empty_is

pub expr_stmt_levels : (x : Expr) → levels_of_stmt_kind (s.Expr x) ≡ levels_of_expr x
expr_stmt_levels x = search (rules, stmts.the_lemmas)

if_kind_levels : (c : Bool) (x : Expr) (y : Stmt) (z : Option Stmt)
    → levels_of_stmt_kind (s.If c x y z) ≡ max (levels_within x) (max (suc (levels_of_stmt y)) (perhaps (one_more levels_of_stmt) z))
if_kind_levels c x y None = search (rules, stmts.the_lemmas)
if_kind_levels c x y (Some z) = search (rules, stmts.the_lemmas)

pub if_levels : (u : Condition × Option Stmt)
    → levels_of_stmt_kind (if_of u) ≡ max (max (levels_within u.0.1.0) (suc (levels_of_stmt u.0.1.1))) (perhaps (one_more levels_of_stmt) u.1)
if_levels u = rw (if_kind_levels (is_there u.0.0) u.0.1.0 u.0.1.1 u.1)
    (three (levels_within u.0.1.0) (suc (levels_of_stmt u.0.1.1)) (perhaps (one_more levels_of_stmt) u.1))

pub while_levels : (u : Span × (Expr × Stmt)) → levels_of_stmt_kind (while_of u) ≡ max (levels_within u.1.0) (suc (levels_of_stmt u.1.1))
while_levels u = search (rules, stmts.the_lemmas)

pub do_levels : (u : Span × (Stmt × Expr)) → levels_of_stmt_kind (do_of u) ≡ max (suc (levels_of_stmt u.1.0)) (levels_within u.1.1)
do_levels u = search (rules, stmts.the_lemmas)

-- (local | e^? ;) e^? ; e^?  or  int a : e^
abbrev pub levels_of_head : ForHead → ℕ
levels_of_head (head.Steps start test change) = max (levels_of_for_start start) (max (perhaps levels_within test) (perhaps levels_within change))
levels_of_head (head.Range specs ptrs name x) = levels_within x

steps_levels : (at : Span) (start : ForStart) (test change : Option Expr) (y : Stmt)
    → levels_of_stmt_kind (s.For at start test change y)
    ≡ max (levels_of_for_start start) (max (perhaps levels_within test) (max (perhaps levels_within change) (suc (levels_of_stmt y))))
steps_levels at start test change y = search (rules, stmts.the_lemmas)

for_by_levels : (at : Span) (h : ForHead) (y : Stmt) → levels_of_stmt_kind (for_by at h y) ≡ max (levels_of_head h) (suc (levels_of_stmt y))
for_by_levels at (head.Steps start test change) y = rw (steps_levels at start test change y)
    (four (levels_of_for_start start) (perhaps levels_within test) (perhaps levels_within change) (suc (levels_of_stmt y)))
for_by_levels at (head.Range specs ptrs name x) y = search (rules, stmts.the_lemmas)

pub for_levels : (u : (Span × ForHead) × Stmt) → levels_of_stmt_kind (for_of u) ≡ max (levels_of_head u.0.1) (suc (levels_of_stmt u.1))
for_levels u = for_by_levels u.0.0 u.0.1 u.1

pub switch_levels : (u : Expr × List SwitchItem) → levels_of_stmt_kind (switch_of u) ≡ max (levels_within u.0) (of_all levels_of_switch_item u.1)
switch_levels u = search (rules, stmts.the_lemmas)

pub break_levels : (at : Span) → levels_of_stmt_kind (s.Break at) ≡ 0
break_levels at = search (rules, stmts.the_lemmas)

pub continue_levels : (at : Span) → levels_of_stmt_kind (s.Continue at) ≡ 0
continue_levels at = search (rules, stmts.the_lemmas)

pub return_levels : (x : Option Returned) → levels_of_stmt_kind (s.Return x) ≡ perhaps levels_of_returned x
return_levels x = search (rules, stmts.the_lemmas)
