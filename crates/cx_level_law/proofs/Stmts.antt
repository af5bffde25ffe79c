-- Statements are spelled with those numbers of levels left that are as many as they go deep ([stmt.stmt], [implimits]): one line for each rule.
use Rattle.std.proofs.Common.{ℕ, zero, suc, max, refl}
use Rattle.cx_tree.specs.declared.stmts.ForStart.TheVariants as start
use Rattle.cx_tree.specs.declared.stmts.Item.TheVariants as i
use Rattle.cx_tree.specs.declared.stmts.LabelKind.TheVariants as la
use Rattle.cx_tree.specs.declared.stmts.Returned.TheVariants as r
use Rattle.cx_tree.specs.declared.stmts.StmtKind.TheVariants as s
use Rattle.cx_tree.specs.declared.stmts.SwitchItem.TheVariants as sw
use Rattle.cx_levels.specs.ExprLevels.{levels_within}
use Rattle.cx_levels.specs.Levels.{perhaps}
use Rattle.cx_levels.specs.StmtLevels.{levels_of_block, levels_of_for_start, levels_of_item, levels_of_label, levels_of_label_kind, levels_of_returned, levels_of_stmt, levels_of_stmt_kind, levels_of_switch_item}
use Rattle.cx_syntax.specs.declared.class.Class.TheVariants as k
use Rattle.cx_syntax.specs.Classes.{is}
use Rattle.cx_syntax_stmts.specs.Ahead.{begins_call}
use Rattle.cx_syntax_stmts.specs.Values.{ends_closed, Steps, Range, if_of, while_of, do_of, steps_of, range_of, for_of, switch_of, stmt_of, label_of, block_of}
use Rattle.cx_syntax_stmts.specs.Grammar as g
use Rattle.cx_level_law.proofs.Counted.{Counted, one_more, counted_flat, counted_as, counted_both, counted_first, counted_second, counted_before, counted_behind, counted_or, counted_maybe, counted_many, counted_unless, counted_tail, counted_absent, counted_last, counted_there}
use Rattle.cx_level_law.proofs.Exprs.{counted_placed, in_parens, in_braces, below, braces_counted, cond_counted, expr_counted}
use Rattle.cx_level_law.proofs.Parts.{attrs_counted, assert_counted, alias_counted, enum_counted}
use Rattle.cx_level_law.proofs.Vars.{local_counted, bare_local_counted}
use Rattle.cx_level_law.proofs.StmtNodes.{levels_of_head, block_levels, stmt_levels, stmt_item_levels, assert_item_levels, alias_item_levels, typedef_item_levels, enum_item_levels, local_item_levels, label_levels, switch_item_levels, block_kind_levels, empty_levels, expr_stmt_levels, if_levels, while_levels, do_levels, for_levels, switch_levels, break_levels, continue_levels, return_levels}

abbrev levels_of_steps : Steps → ℕ
levels_of_steps u = max (levels_of_for_start u.0) (max (perhaps levels_within u.1.0) (perhaps levels_within u.1.1))

abbrev levels_of_range : Range → ℕ
levels_of_range u = levels_within u.1

-- the symbols one level deeper
pub record StmtsBelow (n m : ℕ) (d b : g.Deeper) : Type 0 where
  pub stmt : Counted (one_more levels_of_stmt) n m d.stmt b.stmt
  pub item : Counted (one_more levels_of_item) n m d.item b.item

module _ (n m : ℕ) where
  condition_counted : Counted levels_within n m (g.condition n) (g.condition m)
  condition_counted = in_parens (below n m).expr

  label_counted : Counted levels_of_label n m (g.label n) (g.label m)
  label_counted = counted_placed levels_of_label label_of (λ u. refl)
      (counted_or (counted_as levels_of_label_kind la.Case (λ x. refl)
      (counted_before (is k.Case) (counted_behind (is k.Colon) (cond_counted (below n m)))))
      (counted_as levels_of_label_kind (λ _. la.Default) (λ x. refl) (counted_flat _)))

  expr_stmt_counted : Counted levels_of_stmt_kind n m (g.expr_stmt n) (g.expr_stmt m)
  expr_stmt_counted = counted_as levels_of_stmt_kind s.Expr expr_stmt_levels
      (counted_behind (is k.Semicolon) (counted_unless begins_call (expr_counted (below n m))))

  returned_counted : Counted levels_of_returned n m (g.returned n) (g.returned m)
  returned_counted = counted_or (counted_as levels_of_returned r.Value (λ x. refl) (expr_counted (below n m)))
      (counted_as levels_of_returned r.List (λ x. refl) (braces_counted (below n m)))

  return_counted : Counted levels_of_stmt_kind n m (g.return_stmt n) (g.return_stmt m)
  return_counted = counted_as levels_of_stmt_kind s.Return return_levels
      (counted_before (is k.Return) (counted_behind (is k.Semicolon) (counted_maybe returned_counted)))

  break_counted : Counted levels_of_stmt_kind n m (g.break_stmt n) (g.break_stmt m)
  break_counted = counted_as levels_of_stmt_kind s.Break break_levels (counted_flat _)

  continue_counted : Counted levels_of_stmt_kind n m (g.continue_stmt n) (g.continue_stmt m)
  continue_counted = counted_as levels_of_stmt_kind s.Continue continue_levels (counted_flat _)

  empty_counted : Counted levels_of_stmt_kind n m (g.empty_stmt n) (g.empty_stmt m)
  empty_counted = counted_as levels_of_stmt_kind (λ _. s.Empty) empty_levels (counted_flat _)

  -- ---- what stands in the parentheses of a `for`

  for_start_counted : Counted levels_of_for_start n m (g.for_start n) (g.for_start m)
  for_start_counted = counted_or (counted_as levels_of_for_start start.Local (λ x. refl) (bare_local_counted n m))
      (counted_as levels_of_for_start start.Expr (λ x. refl)
      (counted_behind (is k.Semicolon) (counted_maybe (counted_unless begins_call (below n m).expr))))

  for_steps_counted : Counted levels_of_steps n m (g.for_steps n) (g.for_steps m)
  for_steps_counted = counted_both for_start_counted
      (counted_both (counted_behind (is k.Semicolon) (counted_maybe (below n m).expr)) (counted_maybe (below n m).expr))

  for_range_counted : Counted levels_of_range n m (g.for_range n) (g.for_range m)
  for_range_counted = counted_second _ (counted_before (is k.Colon) (below n m).expr)

  for_head_counted : Counted levels_of_head n m (g.for_head n) (g.for_head m)
  for_head_counted = counted_or (counted_as levels_of_head steps_of (λ u. refl) for_steps_counted)
      (counted_as levels_of_head range_of (λ u. refl) for_range_counted)

  -- ---- over statements and items one level deeper

  module _ {d b : g.Deeper} (h : StmtsBelow n m d b) where
    pub block_with_counted : Counted levels_of_block n m (g.block_with n d) (g.block_with m b)
    block_with_counted =
        counted_placed levels_of_block block_of block_levels (counted_first _ (counted_before (is k.OpenBrace) (counted_many h.item)))

    if_counted : Counted levels_of_stmt_kind n m (g.if_stmt n d) (g.if_stmt m b)
    if_counted = counted_as levels_of_stmt_kind if_of if_levels
        (counted_tail ends_closed (counted_second _ (counted_both condition_counted h.stmt)) (counted_before (is k.Else) h.stmt))

    while_counted : Counted levels_of_stmt_kind n m (g.while_stmt n d) (g.while_stmt m b)
    while_counted = counted_as levels_of_stmt_kind while_of while_levels (counted_second _ (counted_both condition_counted h.stmt))

    do_counted : Counted levels_of_stmt_kind n m (g.do_stmt n d) (g.do_stmt m b)
    do_counted = counted_as levels_of_stmt_kind do_of do_levels
        (counted_second _ (counted_both h.stmt (counted_before (is k.While) (counted_behind (is k.Semicolon) condition_counted))))

    for_counted : Counted levels_of_stmt_kind n m (g.for_stmt n d) (g.for_stmt m b)
    for_counted = counted_as levels_of_stmt_kind for_of for_levels (counted_both (counted_second _ (in_parens for_head_counted)) h.stmt)

    switch_item_counted : Counted levels_of_switch_item n m (g.switch_item n d) (g.switch_item m b)
    switch_item_counted = counted_or (counted_as levels_of_switch_item sw.Label label_levels label_counted)
        (counted_as levels_of_switch_item sw.Item switch_item_levels h.item)

    switch_counted : Counted levels_of_stmt_kind n m (g.switch_stmt n d) (g.switch_stmt m b)
    switch_counted = counted_as levels_of_stmt_kind switch_of switch_levels (counted_both (counted_before (is k.Switch) condition_counted)
        (in_braces (counted_many switch_item_counted)))

    stmt_kind_counted : Counted levels_of_stmt_kind n m (g.stmt_kind n d) (g.stmt_kind m b)
    stmt_kind_counted = counted_or (counted_as levels_of_stmt_kind s.Block block_kind_levels block_with_counted)
        (counted_or empty_counted
        (counted_or if_counted (counted_or while_counted (counted_or do_counted (counted_or for_counted (counted_or switch_counted
        (counted_or break_counted (counted_or continue_counted (counted_or return_counted expr_stmt_counted)))))))))

    pub stmt_with_counted : Counted levels_of_stmt n m (g.stmt_with n d) (g.stmt_with m b)
    stmt_with_counted = counted_placed levels_of_stmt stmt_of stmt_levels (counted_both (attrs_counted n m) stmt_kind_counted)

    pub item_with_counted : Counted levels_of_item n m (g.item_with n d) (g.item_with m b)
    item_with_counted = counted_or (counted_as levels_of_item i.Assert assert_item_levels (assert_counted n m))
        (counted_or (counted_as levels_of_item i.Alias alias_item_levels (alias_counted n m))
        (counted_or (counted_as levels_of_item i.Typedef typedef_item_levels (counted_flat _))
        (counted_or (counted_as levels_of_item i.Enum enum_item_levels (enum_counted n m))
        (counted_or (counted_as levels_of_item i.Stmt stmt_item_levels stmt_with_counted)
        (counted_as levels_of_item i.Local local_item_levels (local_counted n m))))))

-- ---- at each two numbers of levels

stmts_below : (n m : ℕ) → StmtsBelow n m (g.deeper n) (g.deeper m)
stmts_below zero m = let b = g.deeper m in record { stmt = counted_absent _ m b.stmt; item = counted_absent _ m b.item }
stmts_below (suc n) zero =
    let h = stmts_below n 0 in record { stmt = counted_last (stmt_with_counted n 0 h); item = counted_last (item_with_counted n 0 h) }
stmts_below (suc n) (suc m) =
    let h = stmts_below n m in record { stmt = counted_there (stmt_with_counted n m h); item = counted_there (item_with_counted n m h) }

pub block_counted : (n m : ℕ) → Counted levels_of_block n m (g.block n) (g.block m)
block_counted n m = block_with_counted n m (stmts_below n m)
