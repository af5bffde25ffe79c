-- The grammar of statements ([stmt.stmt]): one line for each alternative. A symbol stands at a number of levels that are left.
use Rattle.std.specs.Prelude.{ℕ, zero, suc}
use Rattle.cx_base.specs.declared.diag.Span.{Span}
use Rattle.cx_tree.specs.declared.exprs.Expr.{Expr}
use Rattle.cx_tree.specs.declared.stmts.Block.{Block}
use Rattle.cx_tree.specs.declared.stmts.ForStart.{ForStart}
use Rattle.cx_tree.specs.declared.stmts.ForStart.TheVariants as start
use Rattle.cx_tree.specs.declared.stmts.Item.{Item}
use Rattle.cx_tree.specs.declared.stmts.Item.TheVariants as i
use Rattle.cx_tree.specs.declared.stmts.Label.{Label}
use Rattle.cx_tree.specs.declared.stmts.LabelKind.{LabelKind}
use Rattle.cx_tree.specs.declared.stmts.LabelKind.TheVariants as la
use Rattle.cx_tree.specs.declared.stmts.Returned.{Returned}
use Rattle.cx_tree.specs.declared.stmts.Returned.TheVariants as r
use Rattle.cx_tree.specs.declared.stmts.Stmt.{Stmt}
use Rattle.cx_tree.specs.declared.stmts.StmtKind.{StmtKind}
use Rattle.cx_tree.specs.declared.stmts.StmtKind.TheVariants as s
use Rattle.cx_tree.specs.declared.stmts.SwitchItem.{SwitchItem}
use Rattle.cx_tree.specs.declared.stmts.SwitchItem.TheVariants as sw
use Rattle.cx_syntax.specs.declared.class.Class.{Class}
use Rattle.cx_syntax.specs.declared.class.Class.TheVariants as k
use Rattle.cx_syntax.specs.declared.lexeme.Lexeme.{Lexeme}
use Rattle.cx_grammar.specs.Language.{Language, one, the, ◌>>◌, ◌<$>◌, ◌∥◌, ◌⊳◌, ◌⊲◌, maybe, many, unless, with_tail, measured, absent, there}
use Rattle.cx_syntax.specs.Classes.{is}
use Rattle.cx_syntax.specs.Readers.{just}
use Rattle.cx_syntax.specs.Values.{pick, span_of}
use Rattle.cx_syntax.specs.Grammar as e
use Rattle.cx_syntax_parts.specs.Grammar.{attrs, assert, alias, enum}
use Rattle.cx_syntax_vars.specs.Grammar.{typedef, local, bare_local}
use Rattle.cx_syntax_stmts.specs.declared.parts.ForHead.{ForHead}
use Rattle.cx_syntax_stmts.specs.Ahead.{begins_call}
use Rattle.cx_syntax_stmts.specs.Values.{place_of, ends_closed, Steps, Range, if_of, while_of, do_of, steps_of, range_of, for_of, switch_of, stmt_of, label_of, block_of}

-- the place of a token of the class
abbrev pub place : Class → Language Lexeme Span
place c = one (pick (just c) place_of)

-- an expression that does not begin with a type and `(` ([dcl.ambig.res], [stmt.ambig])
abbrev pub plain : Language Lexeme Expr → Language Lexeme Expr
plain expr = unless begins_call expr

-- the symbols that are marked as one level deeper
pub record Deeper : Type 1 where
  pub stmt : Language Lexeme Stmt
  pub item : Language Lexeme Item

module _ (n : ℕ) where
  -- "(" expr^ ")"
  abbrev pub condition : Language Lexeme Expr
  condition = is k.OpenParen ⊳ (e.deeper n).expr ⊲ is k.CloseParen

  -- ---- labels ([stmt.label])

  -- "case" cond ":"
  abbrev pub case_label : Language Lexeme LabelKind
  case_label = la.Case <$> (is k.Case ⊳ e.cond (e.deeper n) ⊲ is k.Colon)

  -- "default" ":"
  abbrev pub default_label : Language Lexeme LabelKind
  default_label = (λ _. la.Default) <$> (is k.Default ⊳ the (is k.Colon))

  -- label = "case" cond ":" | "default" ":"
  abbrev pub label : Language Lexeme Label
  label = label_of <$> measured span_of (case_label ∥ default_label)

  -- ---- statements without other statements ([stmt.expr], [stmt.jump])

  -- expr ";"
  abbrev pub expr_stmt : Language Lexeme StmtKind
  expr_stmt = s.Expr <$> (plain (e.expr (e.deeper n)) ⊲ is k.Semicolon)

  -- expr | braces
  abbrev pub returned : Language Lexeme Returned
  returned = (r.Value <$> e.expr (e.deeper n)) ∥ (r.List <$> e.braces (e.deeper n))

  -- "return" (expr | braces)? ";"
  abbrev pub return_stmt : Language Lexeme StmtKind
  return_stmt = s.Return <$> (is k.Return ⊳ maybe returned ⊲ is k.Semicolon)

  abbrev pub break_stmt : Language Lexeme StmtKind
  break_stmt = s.Break <$> (place k.Break ⊲ is k.Semicolon)

  abbrev pub continue_stmt : Language Lexeme StmtKind
  continue_stmt = s.Continue <$> (place k.Continue ⊲ is k.Semicolon)

  -- ";"
  abbrev pub empty_stmt : Language Lexeme StmtKind
  empty_stmt = (λ _. s.Empty) <$> the (is k.Semicolon)

  -- ---- what stands in the parentheses of a `for` ([stmt.for], [stmt.ranged])

  -- local | expr^? ";", where the local has no attributes
  abbrev pub for_start : Language Lexeme ForStart
  for_start = (start.Local <$> bare_local n) ∥ (start.Expr <$> maybe (plain (e.deeper n).expr) ⊲ is k.Semicolon)

  -- (local | expr^? ";") expr^? ";" expr^?
  abbrev pub for_steps : Language Lexeme Steps
  for_steps = for_start >> (maybe (e.deeper n).expr ⊲ is k.Semicolon) >> maybe (e.deeper n).expr

  -- specs ptrs ID ":" expr^
  abbrev pub for_range : Language Lexeme Range
  for_range = (e.specs >> (e.ptrs >> e.id)) >> is k.Colon ⊳ (e.deeper n).expr

  -- the two of them
  abbrev pub for_head : Language Lexeme ForHead
  for_head = (steps_of <$> for_steps) ∥ (range_of <$> for_range)

  module _ (d : Deeper) where
    -- "{" item^* "}" ([stmt.block])
    abbrev pub block_with : Language Lexeme Block
    block_with = block_of <$> measured span_of (is k.OpenBrace ⊳ many d.item >> place k.CloseBrace)

    -- "if" "constexpr"? "(" expr^ ")" stmt^ ("else" stmt^)?, where the `else` belongs to the nearest `if` ([stmt.if])
    abbrev pub if_stmt : Language Lexeme StmtKind
    if_stmt = if_of <$> with_tail ends_closed (is k.If ⊳ maybe (the (is k.Constexpr)) >> condition >> d.stmt) (is k.Else ⊳ d.stmt)

    -- "while" "(" expr^ ")" stmt^ ([stmt.while])
    abbrev pub while_stmt : Language Lexeme StmtKind
    while_stmt = while_of <$> (place k.While >> condition >> d.stmt)

    -- "do" stmt^ "while" "(" expr^ ")" ";" ([stmt.do])
    abbrev pub do_stmt : Language Lexeme StmtKind
    do_stmt = do_of <$> (place k.Do >> d.stmt >> is k.While ⊳ condition ⊲ is k.Semicolon)

    -- "for" "(" ((local | expr^? ";") expr^? ";" expr^? | specs ptrs ID ":" expr^) ")" stmt^
    abbrev pub for_stmt : Language Lexeme StmtKind
    for_stmt = for_of <$> ((place k.For >> is k.OpenParen ⊳ for_head ⊲ is k.CloseParen) >> d.stmt)

    -- label | item^
    abbrev pub switch_item : Language Lexeme SwitchItem
    switch_item = (sw.Label <$> label) ∥ (sw.Item <$> d.item)

    -- "switch" "(" expr^ ")" "{" (label | item^)* "}" ([stmt.switch])
    abbrev pub switch_stmt : Language Lexeme StmtKind
    switch_stmt = switch_of <$> ((is k.Switch ⊳ condition) >> is k.OpenBrace ⊳ many switch_item ⊲ is k.CloseBrace)

    -- a statement behind its attributes
    abbrev pub stmt_kind : Language Lexeme StmtKind
    stmt_kind = (s.Block <$> block_with) ∥ empty_stmt ∥ if_stmt ∥ while_stmt ∥ do_stmt ∥ for_stmt ∥ switch_stmt ∥ break_stmt ∥ continue_stmt ∥ return_stmt ∥ expr_stmt

    -- stmt = attrs (block | ";" | expr ";" | "if" .. | "while" .. | "do" .. | "for" .. | "switch" .. | "break" ";" | "continue" ";" | "return" (expr | braces)? ";")
    abbrev pub stmt_with : Language Lexeme Stmt
    stmt_with = stmt_of <$> measured span_of (attrs n >> stmt_kind)

    -- item = stmt | assert | alias | typedef | enum | local ([stmt.dcl])
    abbrev pub item_with : Language Lexeme Item
    item_with = (i.Assert <$> assert n) ∥ (i.Alias <$> alias n) ∥ (i.Typedef <$> typedef) ∥ (i.Enum <$> enum n) ∥ (i.Stmt <$> stmt_with) ∥ (i.Local <$> local n)

-- one level deeper, with so many levels left
abbrev pub deeper : ℕ → Deeper
deeper zero = record { stmt = absent; item = absent }
deeper (suc n) = record { stmt = there (stmt_with n (deeper n)); item = there (item_with n (deeper n)) }

-- ---- the symbols, each with so many levels left

abbrev pub stmt : ℕ → Language Lexeme Stmt
stmt n = stmt_with n (deeper n)

abbrev pub item : ℕ → Language Lexeme Item
item n = item_with n (deeper n)

abbrev pub block : ℕ → Language Lexeme Block
block n = block_with n (deeper n)
