-- The readers of the rules of statements: each has the name of its language, and chooses by the tokens ahead and then by the level.
use Rattle.std.specs.Prelude.{ℕ, zero, suc, Bool, ◌&&◌, List, Option, Some, None, false, if◌then◌else◌}
use Rattle.cx_base.specs.declared.diag.Span.{Span}
use Rattle.cx_base.specs.declared.rule.Rule.TheVariants.{Syntax}
use Rattle.cx_tree.specs.declared.exprs.Expr.{Expr}
use Rattle.cx_tree.specs.declared.names.Ident.{Ident}
use Rattle.cx_tree.specs.declared.specifiers.Ptrs.{Ptrs}
use Rattle.cx_tree.specs.declared.specifiers.Specs.{Specs}
use Rattle.cx_tree.specs.declared.stmts.Block.{Block}
use Rattle.cx_tree.specs.declared.stmts.ForStart.{ForStart}
use Rattle.cx_tree.specs.declared.stmts.ForStart.TheVariants as start
use Rattle.cx_tree.specs.declared.stmts.Item.{Item}
use Rattle.cx_tree.specs.declared.stmts.Item.TheVariants as i
use Rattle.cx_tree.specs.declared.stmts.Label.{Label}
use Rattle.cx_tree.specs.declared.stmts.LabelKind.{LabelKind}
use Rattle.cx_tree.specs.declared.stmts.LabelKind.TheVariants as la
use Rattle.cx_tree.specs.declared.stmts.Returned.{Returned}
use Rattle.cx_tree.specs.declared.stmts.Returned.TheVariants as ret
use Rattle.cx_tree.specs.declared.stmts.Stmt.{Stmt}
use Rattle.cx_tree.specs.declared.stmts.StmtKind.{StmtKind}
use Rattle.cx_tree.specs.declared.stmts.StmtKind.TheVariants as s
use Rattle.cx_tree.specs.declared.stmts.SwitchItem.{SwitchItem}
use Rattle.cx_tree.specs.declared.stmts.SwitchItem.TheVariants as sw
use Rattle.cx_syntax.specs.declared.class.Class.{Class}
use Rattle.cx_syntax.specs.declared.class.Class.TheVariants as k
use Rattle.cx_syntax.specs.declared.lexeme.Lexeme.{Lexeme}
use Rattle.cx_grammar.specs.Exact.{Outcome, done, stop}
use Rattle.cx_grammar.specs.Sets.{of}
use Rattle.cx_grammar.specs.Reading.{Reader, token, the, refuse, guarded, sees, many_of, maybe_if, tail_if, measured_by, ◌>>◌, ◌<$>◌, ◌⊳◌, ◌⊲◌}
use Rattle.cx_syntax.specs.Ahead.{type_ahead}
use Rattle.cx_syntax.specs.Classes.{class_at, is}
use Rattle.cx_syntax.specs.Readers.{choose, just}
use Rattle.cx_syntax.specs.Readers as e
use Rattle.cx_syntax.specs.Sets.{starts_assign, starts_clause}
use Rattle.cx_syntax.specs.Values.{pick, span_of}
use Rattle.cx_syntax_parts.specs.Readers.{attrs, assert, alias, enum}
use Rattle.cx_syntax_vars.specs.Ahead.{type_next}
use Rattle.cx_syntax_vars.specs.Readers.{typedef, specs_before, declared, bare_local}
use Rattle.cx_syntax_stmts.specs.declared.parts.BehindAttrs.{BehindAttrs}
use Rattle.cx_syntax_stmts.specs.declared.parts.BehindAttrs.TheVariants as behind
use Rattle.cx_syntax_stmts.specs.declared.parts.ForHead.{ForHead}
use Rattle.cx_syntax_stmts.specs.Ahead.{call_at, enum_ahead}
use Rattle.cx_syntax_stmts.specs.Sets.{starts_label, starts_item, starts_switch_item}
use Rattle.cx_syntax_stmts.specs.Values.{place_of, Condition, Steps, Range, if_of, while_of, do_of, steps_of, range_of, for_of, switch_of, stmt_of, label_of, block_of, vars_of, plain_of}

abbrev pub place : Class → Reader Lexeme Span
place c = token (pick (just c) place_of)

-- a `(` behind a type is refused
abbrev pub plain_by : Option ℕ → Reader Lexeme Expr → Reader Lexeme Expr
plain_by None expr ts = expr ts
plain_by (Some left) expr ts = stop Syntax left

abbrev pub plain : Reader Lexeme Expr → Reader Lexeme Expr
plain expr ts = plain_by (call_at ts) expr ts

-- ptrs ID
abbrev pub declarator : Reader Lexeme (Ptrs × Ident)
declarator = e.ptrs >> e.id

-- specs ptrs ID
abbrev pub range_name : Reader Lexeme (Specs × (Ptrs × Ident))
range_name = specs_before type_next >> declarator

abbrev pub colon_behind : {A : Type 0} → Outcome Lexeme A → Bool
colon_behind (done v rest) = sees (is k.Colon) rest
colon_behind (stop rule left) = false

-- the variable of a range and `:`
unfoldable pub range_ahead : List Lexeme → Bool
range_ahead ts = type_ahead ts && colon_behind (range_name ts)

-- the readers one level deeper
pub record Readers : Type 0 where
  pub stmt : Reader Lexeme Stmt
  pub item : Reader Lexeme Item

module _ (n : ℕ) where
  -- there is a level deeper
  abbrev pub room : Bool
  room = (e.deeper n).room

  abbrev pub condition : Reader Lexeme Expr
  condition = is k.OpenParen ⊳ (e.deeper n).expr ⊲ is k.CloseParen

  -- ---- labels

  unfoldable pub case_label : Reader Lexeme LabelKind
  case_label = la.Case <$> (is k.Case ⊳ e.cond (e.deeper n) ⊲ is k.Colon)

  unfoldable pub default_label : Reader Lexeme LabelKind
  default_label = (λ _. la.Default) <$> (is k.Default ⊳ the (is k.Colon))

  unfoldable pub label : Reader Lexeme Label
  label = label_of <$> measured_by span_of (choose (just k.Case) case_label default_label)

  -- ---- statements without other statements

  unfoldable pub expr_stmt : Reader Lexeme StmtKind
  expr_stmt = s.Expr <$> (plain (e.expr (e.deeper n)) ⊲ is k.Semicolon)

  unfoldable pub returned : Reader Lexeme Returned
  returned = choose (just k.OpenBrace) (ret.List <$> e.braces (e.deeper n)) (ret.Value <$> e.expr (e.deeper n))

  unfoldable pub return_stmt : Reader Lexeme StmtKind
  return_stmt = s.Return <$> (is k.Return ⊳ maybe_if (of class_at starts_clause) returned ⊲ is k.Semicolon)

  unfoldable pub break_stmt : Reader Lexeme StmtKind
  break_stmt = s.Break <$> (place k.Break ⊲ is k.Semicolon)

  unfoldable pub continue_stmt : Reader Lexeme StmtKind
  continue_stmt = s.Continue <$> (place k.Continue ⊲ is k.Semicolon)

  unfoldable pub empty_stmt : Reader Lexeme StmtKind
  empty_stmt = (λ _. s.Empty) <$> the (is k.Semicolon)

  -- ---- what stands in the parentheses of a `for`

  -- expr^?
  abbrev pub maybe_expr : Reader Lexeme (Option Expr)
  maybe_expr = maybe_if (of class_at starts_assign) (e.deeper n).expr

  -- an expression, if it is there, and `;`
  abbrev pub first_expr : Reader Lexeme ForStart
  first_expr = start.Expr <$> maybe_if (of class_at starts_assign) (plain (e.deeper n).expr) ⊲ is k.Semicolon

  -- variables where a type comes next
  unfoldable pub for_start : Reader Lexeme ForStart
  for_start ts = if type_ahead ts then (start.Local <$> bare_local n) ts else first_expr ts

  unfoldable pub for_steps : Reader Lexeme Steps
  for_steps = for_start >> (maybe_expr ⊲ is k.Semicolon) >> maybe_expr

  unfoldable pub for_range : Reader Lexeme Range
  for_range = range_name >> is k.Colon ⊳ (e.deeper n).expr

  unfoldable pub for_head : Reader Lexeme ForHead
  for_head ts = if range_ahead ts then (range_of <$> for_range) ts else (steps_of <$> for_steps) ts

  module _ (d : Readers) where
    -- item^*
    abbrev pub items : Reader Lexeme (List Item)
    items = many_of (of class_at starts_item) (guarded room d.item)

    unfoldable pub block_with : Reader Lexeme Block
    block_with = block_of <$> measured_by span_of (is k.OpenBrace ⊳ items >> place k.CloseBrace)

    abbrev pub if_part : Reader Lexeme Condition
    if_part = is k.If ⊳ maybe_if (is k.Constexpr) (the (is k.Constexpr)) >> condition >> d.stmt

    abbrev pub else_part : Reader Lexeme Stmt
    else_part = is k.Else ⊳ d.stmt

    unfoldable pub if_stmt : Reader Lexeme StmtKind
    if_stmt = guarded room (if_of <$> tail_if (is k.Else) if_part else_part)

    unfoldable pub while_stmt : Reader Lexeme StmtKind
    while_stmt = guarded room (while_of <$> (place k.While >> condition >> d.stmt))

    unfoldable pub do_stmt : Reader Lexeme StmtKind
    do_stmt = guarded room (do_of <$> (place k.Do >> d.stmt >> is k.While ⊳ condition ⊲ is k.Semicolon))

    unfoldable pub for_stmt : Reader Lexeme StmtKind
    for_stmt = guarded room (for_of <$> ((place k.For >> is k.OpenParen ⊳ for_head ⊲ is k.CloseParen) >> d.stmt))

    unfoldable pub switch_item : Reader Lexeme SwitchItem
    switch_item = choose starts_label (sw.Label <$> label) (sw.Item <$> d.item)

    abbrev pub switch_items : Reader Lexeme (List SwitchItem)
    switch_items = many_of (of class_at starts_switch_item) switch_item

    unfoldable pub switch_stmt : Reader Lexeme StmtKind
    switch_stmt = guarded room (switch_of <$> ((is k.Switch ⊳ condition) >> is k.OpenBrace ⊳ switch_items ⊲ is k.CloseBrace))

    unfoldable pub jump_stmt : Reader Lexeme StmtKind
    jump_stmt = choose (just k.Break) break_stmt (choose (just k.Continue) continue_stmt (choose (just k.Return) return_stmt expr_stmt))

    unfoldable pub loop_stmt : Reader Lexeme StmtKind
    loop_stmt = choose (just k.While) while_stmt (choose (just k.Do) do_stmt (choose (just k.For) for_stmt (choose (just k.Switch) switch_stmt jump_stmt)))

    unfoldable pub stmt_kind : Reader Lexeme StmtKind
    stmt_kind = choose (just k.OpenBrace) (s.Block <$> block_with) (choose (just k.Semicolon) empty_stmt (choose (just k.If) if_stmt loop_stmt))

    unfoldable pub stmt_with : Reader Lexeme Stmt
    stmt_with = stmt_of <$> measured_by span_of (attrs n >> stmt_kind)

    -- behind attributes: variables where a type comes next
    unfoldable pub behind_attrs : Reader Lexeme BehindAttrs
    behind_attrs ts = if type_ahead ts then (vars_of <$> declared n) ts else (behind.Stmt <$> stmt_kind) ts

    -- a statement, or variables
    unfoldable pub plain_item : Reader Lexeme Item
    plain_item = plain_of <$> measured_by span_of (attrs n >> behind_attrs)

    -- an enumeration, or one of these
    abbrev pub enum_or_plain : Reader Lexeme Item
    enum_or_plain ts = if enum_ahead ts then (i.Enum <$> enum n) ts else plain_item ts

    unfoldable pub item_with : Reader Lexeme Item
    item_with = choose (just k.StaticAssert) (i.Assert <$> assert n) (choose (just k.Using) (i.Alias <$> alias n) (choose (just k.Typedef) (i.Typedef <$> typedef) enum_or_plain))

-- one level deeper, with so many levels left
unfoldable pub deeper : ℕ → Readers
deeper zero = record { stmt = refuse; item = refuse }
deeper (suc n) = record { stmt = stmt_with n (deeper n); item = item_with n (deeper n) }

-- ---- the symbols, each with so many levels left

abbrev pub stmt : ℕ → Reader Lexeme Stmt
stmt n = stmt_with n (deeper n)

abbrev pub item : ℕ → Reader Lexeme Item
item n = item_with n (deeper n)

abbrev pub block : ℕ → Reader Lexeme Block
block n = block_with n (deeper n)
