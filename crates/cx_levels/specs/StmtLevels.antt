-- How many levels the text of a statement, and of what stands in one, goes deeper than its own place ([gram], [implimits]).
-- Each line has the form that it counts; what is marked `^` there stands one level deeper than the form itself.
use Rattle.std.specs.Prelude.{ℕ, suc, max, map}
use Rattle.cx_tree.specs.declared.decls.Alias.{Alias}
use Rattle.cx_tree.specs.declared.decls.Assert.{Assert}
use Rattle.cx_tree.specs.declared.decls.Enumeration.{Enumeration}
use Rattle.cx_tree.specs.declared.decls.EnumerationKind.{EnumerationKind}
use Rattle.cx_tree.specs.declared.decls.EnumerationKind.TheVariants as en
use Rattle.cx_tree.specs.declared.decls.Enumerator.{Enumerator}
use Rattle.cx_tree.specs.declared.stmts.Block.{Block}
use Rattle.cx_tree.specs.declared.stmts.ForStart.{ForStart}
use Rattle.cx_tree.specs.declared.stmts.ForStart.TheVariants as st
use Rattle.cx_tree.specs.declared.stmts.Init.{Init}
use Rattle.cx_tree.specs.declared.stmts.InitKind.{InitKind}
use Rattle.cx_tree.specs.declared.stmts.InitKind.TheVariants as i
use Rattle.cx_tree.specs.declared.stmts.Item.{Item}
use Rattle.cx_tree.specs.declared.stmts.Item.TheFolds.{fold-Block, fold-Item, fold-Stmt, fold-StmtKind, fold-SwitchItem}
use Rattle.cx_tree.specs.declared.stmts.Item.TheOpen.{Block-F, Item-F, Stmt-F, StmtKind-F, SwitchItem-F}
use Rattle.cx_tree.specs.declared.stmts.Label.{Label}
use Rattle.cx_tree.specs.declared.stmts.LabelKind.{LabelKind}
use Rattle.cx_tree.specs.declared.stmts.LabelKind.TheVariants as la
use Rattle.cx_tree.specs.declared.stmts.Local.{Local}
use Rattle.cx_tree.specs.declared.stmts.Returned.{Returned}
use Rattle.cx_tree.specs.declared.stmts.Returned.TheVariants as r
use Rattle.cx_tree.specs.declared.stmts.Stmt.{Stmt}
use Rattle.cx_tree.specs.declared.stmts.StmtKind.{StmtKind}
use Rattle.cx_tree.specs.declared.stmts.SwitchItem.{SwitchItem}
use Rattle.cx_tree.specs.declared.stmts.Var.{Var}
use Rattle.cx_levels.specs.ExprLevels.{levels_of_args, levels_of_bound, levels_of_braces, levels_of_expr, levels_of_type_id, levels_within}
use Rattle.cx_levels.specs.Levels.{greatest, deeper, perhaps}

abbrev pub levels_of_assert : Assert → ℕ
levels_of_assert a = levels_of_expr a.condition

abbrev pub levels_of_alias : Alias → ℕ
levels_of_alias a = max a.attrs (levels_of_type_id a.ty)

-- a [[..]] = e
abbrev pub levels_of_enumerator : Enumerator → ℕ
levels_of_enumerator e = max e.attrs (perhaps levels_of_expr e.value)

-- { a, b }
abbrev pub levels_of_enumeration_kind : EnumerationKind → ℕ
levels_of_enumeration_kind (en.Named scoped name base enumerators) = perhaps (λ es. greatest (map levels_of_enumerator es)) enumerators
levels_of_enumeration_kind (en.Unnamed base enumerators) = greatest (map levels_of_enumerator enumerators)

abbrev pub levels_of_enumeration : Enumeration → ℕ
levels_of_enumeration e = max e.attrs (levels_of_enumeration_kind e.kind)

-- = e, = {..}, {..}, (..)
abbrev pub levels_of_init_kind : InitKind → ℕ
levels_of_init_kind (i.Equals e) = levels_of_expr e
levels_of_init_kind (i.EqualsList b) = levels_of_braces b
levels_of_init_kind (i.DirectList b) = levels_of_braces b
levels_of_init_kind (i.Direct a) = levels_of_args a

abbrev pub levels_of_init : Init → ℕ
levels_of_init init = levels_of_init_kind init.kind

-- a [[..]] [..] = e
abbrev pub levels_of_var : Var → ℕ
levels_of_var v = max v.attrs (max (greatest (map levels_of_bound v.bounds)) (perhaps levels_of_init v.init))

-- [[..]] int a, b;
abbrev pub levels_of_local : Local → ℕ
levels_of_local l = max l.attrs (greatest (map levels_of_var l.vars))

-- int a = e;  or  e^ ;
abbrev pub levels_of_for_start : ForStart → ℕ
levels_of_for_start (st.Local l) = levels_of_local l
levels_of_for_start (st.Expr e) = perhaps levels_within e

-- case e :
abbrev pub levels_of_label_kind : LabelKind → ℕ
levels_of_label_kind (la.Case e) = levels_of_expr e
levels_of_label_kind la.Default = 0

abbrev pub levels_of_label : Label → ℕ
levels_of_label l = levels_of_label_kind l.kind

-- return e, return {..}
abbrev pub levels_of_returned : Returned → ℕ
levels_of_returned (r.Value e) = levels_of_expr e
levels_of_returned (r.List b) = levels_of_braces b

abbrev pub item_step : Item-F ℕ ℕ ℕ ℕ ℕ → ℕ
item_step (Item-F.Stmt s) = s
item_step (Item-F.Assert a) = levels_of_assert a
item_step (Item-F.Alias a) = levels_of_alias a
item_step (Item-F.Typedef t) = 0
item_step (Item-F.Enum e) = levels_of_enumeration e
item_step (Item-F.Local l) = levels_of_local l

abbrev pub stmt_kind_step : StmtKind-F ℕ ℕ ℕ ℕ ℕ → ℕ
stmt_kind_step (StmtKind-F.Block b) = b
stmt_kind_step StmtKind-F.Empty = 0
stmt_kind_step (StmtKind-F.Expr e) = levels_of_expr e
-- if (e^) s^ else s^
stmt_kind_step (StmtKind-F.If is_constexpr e s other) = max (levels_within e) (max (suc s) (perhaps suc other))
-- while (e^) s^
stmt_kind_step (StmtKind-F.While at e s) = max (levels_within e) (suc s)
-- do s^ while (e^);
stmt_kind_step (StmtKind-F.Do at s e) = max (suc s) (levels_within e)
-- for (.. e^ ; e^) s^
stmt_kind_step (StmtKind-F.For at start e change s) = max (levels_of_for_start start) (max (perhaps levels_within e) (max (perhaps levels_within change) (suc s)))
-- for (int a : e^) s^
stmt_kind_step (StmtKind-F.ForRange at specs ptrs name e s) = max (levels_within e) (suc s)
-- switch (e^) { .. }
stmt_kind_step (StmtKind-F.Switch e items) = max (levels_within e) (greatest items)
stmt_kind_step (StmtKind-F.Break at) = 0
stmt_kind_step (StmtKind-F.Continue at) = 0
stmt_kind_step (StmtKind-F.Return value) = perhaps levels_of_returned value

abbrev pub switch_item_step : SwitchItem-F ℕ ℕ ℕ ℕ ℕ → ℕ
switch_item_step (SwitchItem-F.Label l) = levels_of_label l
-- item^
switch_item_step (SwitchItem-F.Item item) = suc item

-- { item^ item^ }
abbrev pub block_step : Block-F ℕ ℕ ℕ ℕ ℕ → ℕ
block_step b = deeper b.items

-- [[..]] s
abbrev pub stmt_step : Stmt-F ℕ ℕ ℕ ℕ ℕ → ℕ
stmt_step s = max s.attrs s.kind

abbrev pub levels_of_stmt : Stmt → ℕ
levels_of_stmt = fold-Stmt ℕ ℕ ℕ ℕ ℕ item_step stmt_kind_step switch_item_step block_step stmt_step

abbrev pub levels_of_stmt_kind : StmtKind → ℕ
levels_of_stmt_kind = fold-StmtKind ℕ ℕ ℕ ℕ ℕ item_step stmt_kind_step switch_item_step block_step stmt_step

abbrev pub levels_of_block : Block → ℕ
levels_of_block = fold-Block ℕ ℕ ℕ ℕ ℕ item_step stmt_kind_step switch_item_step block_step stmt_step

abbrev pub levels_of_item : Item → ℕ
levels_of_item = fold-Item ℕ ℕ ℕ ℕ ℕ item_step stmt_kind_step switch_item_step block_step stmt_step

abbrev pub levels_of_switch_item : SwitchItem → ℕ
levels_of_switch_item = fold-SwitchItem ℕ ℕ ℕ ℕ ℕ item_step stmt_kind_step switch_item_step block_step stmt_step
