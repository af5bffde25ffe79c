-- What the tokens of a statement give to its tree, and how the parts of a rule make it.
use Rattle.std.specs.Prelude.{ℕ, Bool, true, false, not, List, Option, Some, None}
use Rattle.cx_base.specs.declared.diag.Span.{Span}
use Rattle.cx_tree.specs.declared.exprs.Expr.{Expr}
use Rattle.cx_tree.specs.declared.names.Ident.{Ident}
use Rattle.cx_tree.specs.declared.specifiers.Ptrs.{Ptrs}
use Rattle.cx_tree.specs.declared.specifiers.Specs.{Specs}
use Rattle.cx_tree.specs.declared.stmts.Block.{Block}
use Rattle.cx_tree.specs.declared.stmts.ForStart.{ForStart}
use Rattle.cx_tree.specs.declared.stmts.Item.{Item}
use Rattle.cx_tree.specs.declared.stmts.Item.TheVariants as i
use Rattle.cx_tree.specs.declared.stmts.Item.TheFolds.{fold-Item, fold-Stmt, fold-StmtKind}
use Rattle.cx_tree.specs.declared.stmts.Item.TheOpen.{Block-F, Item-F, Stmt-F, StmtKind-F, SwitchItem-F}
use Rattle.cx_tree.specs.declared.stmts.Item.TheViews.{roll-Block, roll-Stmt}
use Rattle.cx_tree.specs.declared.stmts.Label.{Label}
use Rattle.cx_tree.specs.declared.stmts.LabelKind.{LabelKind}
use Rattle.cx_tree.specs.declared.stmts.Stmt.{Stmt}
use Rattle.cx_tree.specs.declared.stmts.StmtKind.{StmtKind}
use Rattle.cx_tree.specs.declared.stmts.StmtKind.TheVariants as s
use Rattle.cx_tree.specs.declared.stmts.SwitchItem.{SwitchItem}
use Rattle.cx_tree.specs.declared.stmts.Var.{Var}
use Rattle.cx_syntax.specs.declared.lexeme.Lexeme.{Lexeme}
use Rattle.cx_syntax.specs.Values.{is_there}
use Rattle.cx_syntax_stmts.specs.declared.parts.BehindAttrs.{BehindAttrs}
use Rattle.cx_syntax_stmts.specs.declared.parts.BehindAttrs.TheVariants as behind
use Rattle.cx_syntax_stmts.specs.declared.parts.ForHead.{ForHead}
use Rattle.cx_syntax_stmts.specs.declared.parts.ForHead.TheVariants as head
use Rattle.cx_syntax_vars.specs.Values.{local_of}

-- where a token stands
abbrev pub place_of : Lexeme → Span
place_of t = t.span

-- ---- an `else` belongs to the nearest `if` ([stmt.if])

abbrev pub open_item : Item-F Bool Bool Bool Bool Bool → Bool
open_item (Item-F.Stmt s) = s
open_item _ = false

abbrev pub open_switch_item : SwitchItem-F Bool Bool Bool Bool Bool → Bool
open_switch_item _ = false

abbrev pub open_block : Block-F Bool Bool Bool Bool Bool → Bool
open_block _ = false

-- it is an `if` without `else`, or ends in a statement that is one
abbrev pub open_kind : StmtKind-F Bool Bool Bool Bool Bool → Bool
open_kind (StmtKind-F.If is_constexpr e body None) = true
open_kind (StmtKind-F.If is_constexpr e body (Some other)) = other
open_kind (StmtKind-F.While at e body) = body
open_kind (StmtKind-F.For at start e change body) = body
open_kind (StmtKind-F.ForRange at specs ptrs name e body) = body
open_kind _ = false

abbrev pub open_stmt : Stmt-F Bool Bool Bool Bool Bool → Bool
open_stmt s = s.kind

-- An `else` behind the statement would belong to an `if` in it.
abbrev pub takes_else : Stmt → Bool
takes_else = fold-Stmt Bool Bool Bool Bool Bool open_item open_kind open_switch_item open_block open_stmt

abbrev pub kind_takes_else : StmtKind → Bool
kind_takes_else = fold-StmtKind Bool Bool Bool Bool Bool open_item open_kind open_switch_item open_block open_stmt

abbrev pub item_takes_else : Item → Bool
item_takes_else = fold-Item Bool Bool Bool Bool Bool open_item open_kind open_switch_item open_block open_stmt

-- ---- statements

abbrev pub Condition : Type 0
Condition = Option (Unit {0}) × (Expr × Stmt)

-- an `else` may stand behind this much of an `if`
abbrev pub ends_closed : Condition → Bool
ends_closed u = not (takes_else u.1.1)

abbrev pub if_of : Condition × Option Stmt → StmtKind
if_of u = s.If (is_there u.0.0) u.0.1.0 u.0.1.1 u.1

abbrev pub while_of : Span × (Expr × Stmt) → StmtKind
while_of u = s.While u.0 u.1.0 u.1.1

abbrev pub do_of : Span × (Stmt × Expr) → StmtKind
do_of u = s.Do u.0 u.1.0 u.1.1

-- what stands in the parentheses of a `for`, and of one over a range
abbrev pub Steps : Type 0
Steps = ForStart × (Option Expr × Option Expr)

abbrev pub Range : Type 0
Range = (Specs × (Ptrs × Ident)) × Expr

abbrev pub steps_of : Steps → ForHead
steps_of u = head.Steps u.0 u.1.0 u.1.1

abbrev pub range_of : Range → ForHead
range_of u = head.Range u.0.0 u.0.1.0 u.0.1.1 u.1

abbrev pub for_by : Span → ForHead → Stmt → StmtKind
for_by at (head.Steps start e change) body = s.For at start e change body
for_by at (head.Range specs ptrs name e) body = s.ForRange at specs ptrs name e body

abbrev pub for_of : (Span × ForHead) × Stmt → StmtKind
for_of u = for_by u.0.0 u.0.1 u.1

abbrev pub switch_of : Expr × List SwitchItem → StmtKind
switch_of u = s.Switch u.0 u.1

abbrev pub stmt_of : (ℕ × StmtKind) × Span → Stmt
stmt_of u = roll-Stmt (record { attrs = u.0.0; kind = u.0.1; span = u.1 })

abbrev pub label_of : LabelKind × Span → Label
label_of u = record { kind = u.0; span = u.1 }

abbrev pub block_of : (List Item × Span) × Span → Block
block_of u = roll-Block (record { items = u.0.0; close = u.0.1; span = u.1 })

-- specs and variables
abbrev pub Declared : Type 0
Declared = Specs × List Var

abbrev pub vars_of : Declared → BehindAttrs
vars_of u = behind.Vars u.0 u.1

-- a statement or variables, with the attributes before them
abbrev pub plain_by : ℕ → BehindAttrs → Span → Item
plain_by attrs (behind.Stmt kind) span = i.Stmt (stmt_of ((attrs, kind), span))
plain_by attrs (behind.Vars specs vars) span = i.Local (local_of ((attrs, (specs, vars)), span))

abbrev pub plain_of : (ℕ × BehindAttrs) × Span → Item
plain_of u = plain_by u.0.0 u.0.1 u.1
