-- The readers of labels, statements and blocks are exact, given those one level deeper ([stmt.stmt]).
use Rattle.std.proofs.Common.{◌≡◌, ℕ, Bool, true, false, not, ◌&&◌, ◌||◌, List, Option, Some, None, refl, ◌∙◌, ap}
use Rattle.cx_grammar.specs.Language.{the, maybe, many, present, ◌>>◌, ◌<$>◌, ◌⊳◌, ◌⊲◌}
use Rattle.cx_grammar.specs.Exact.{Family, done}
use Rattle.cx_grammar.specs.Reading.{Reader, guarded, sees, maybe_if, tail_if, the as read_the, ◌<$>◌ as ◌<$$>◌, ◌>>◌ as ◌|>◌, ◌⊳◌ as ◌▷◌, ◌⊲◌ as ◌◁◌}
use Rattle.cx_grammar.specs.Sets.{by, never}
use Rattle.cx_grammar.proofs.Heads.{heads_as, heads_both, heads_the, never_apart, never_sub, same_sub, heads_before}
use Rattle.cx_grammar.proofs.Steps.{Exactly, ExactlyAt, exactly_token, exactly_as, exactly_made, exactly_before, exactly_behind, exactly_both, exactly_then, exactly_maybe, exactly_many}
use Rattle.cx_grammar.proofs.Choices.{exactly_on}
use Rattle.cx_grammar.proofs.Levels.{marked, present_at, present_deep}
use Rattle.cx_grammar.proofs.Sames.{exactly_same, swapped}
use Rattle.cx_grammar.proofs.Sides.{exactly_measured}
use Rattle.cx_grammar.proofs.Tail.{exactly_tail}
use Rattle.cx_tree.specs.declared.stmts.LabelKind.TheVariants as la
use Rattle.cx_tree.specs.declared.stmts.Returned.TheVariants as ret
use Rattle.cx_tree.specs.declared.stmts.Stmt.{Stmt}
use Rattle.cx_tree.specs.declared.stmts.StmtKind.{StmtKind}
use Rattle.cx_tree.specs.declared.stmts.StmtKind.TheVariants as kinds
use Rattle.cx_tree.specs.declared.stmts.SwitchItem.TheVariants as sw
use Rattle.cx_syntax.specs.declared.class.Class.{Class}
use Rattle.cx_syntax.specs.declared.class.Class.TheVariants as k
use Rattle.cx_syntax.specs.declared.lexeme.Lexeme.{Lexeme}
use Rattle.cx_syntax.specs.Classes.{is, same_class}
use Rattle.cx_syntax.specs.Goes.{goes_args, goes_assign}
use Rattle.cx_syntax.specs.Grammar as e
use Rattle.cx_syntax.specs.Readers as x
use Rattle.cx_syntax.specs.Readers.{just, choose}
use Rattle.cx_syntax.specs.Sets.{starts_assign, starts_clause}
use Rattle.cx_syntax.specs.Values.{span_of}
use Rattle.cx_syntax.proofs.Basics.{at, apart, sub, exactly_stays, exactly_pair, exactly_choice, exactly_widened}
use Rattle.cx_syntax.proofs.Depth as h
use Rattle.cx_syntax.proofs.Exact.{sound, exactly_expr, exactly_cond}
use Rattle.cx_syntax.proofs.Lists.{exactly_braces, exactly_deep, deep}
use Rattle.cx_syntax.proofs.Valued.{exactly_go, exactly_led, exactly_spanned}
use Rattle.cx_syntax_parts.specs.Goes.{goes_attrs}
use Rattle.cx_syntax_parts.proofs.Soup.{exactly_attrs}
use Rattle.cx_syntax_stmts.specs.Goes.{goes_stmt, goes_stmt_kind, goes_item}
use Rattle.cx_syntax_stmts.specs.Grammar as g
use Rattle.cx_syntax_stmts.specs.Readers as r
use Rattle.cx_syntax_stmts.specs.Sets.{starts_label, starts_item, starts_switch_item, starts_stmt_kind}
use Rattle.cx_syntax_stmts.specs.Values.{Condition, takes_else, kind_takes_else, ends_closed, if_of, while_of, do_of, for_of, switch_of, stmt_of, label_of, block_of}
use Rattle.cx_syntax_stmts.proofs.Begins as b
use Rattle.cx_syntax_stmts.proofs.Calls.{exactly_plain}
use Rattle.cx_syntax_stmts.proofs.Closing.{Closes, closes_both}
use Rattle.cx_syntax_stmts.proofs.Depth as d
use Rattle.cx_syntax_stmts.proofs.Fors.{goes_head, exactly_for_head}
use Rattle.cx_syntax_stmts.proofs.Openness as o

-- The readers one level deeper are exact, where there is such a level, and read each `else` that a statement may take.
pub record Sound (left : ℕ) : Type 0 where
  pub stmt : (x.deeper left).room ≡ true → Exactly (λ n. (g.deeper n).stmt) goes_stmt left (r.deeper left).stmt
  pub item : (x.deeper left).room ≡ true → Exactly (λ n. (g.deeper n).item) goes_item left (r.deeper left).item
  pub closed : Closes takes_else (r.deeper left).stmt

abbrev pub only_else : Class → Bool
only_else c = just k.Else c

pub and_first : (b c : Bool) → (b && c) ≡ true → b ≡ true
and_first true c e = refl
and_first false c e = e

pub both_are : (b c : Bool) → b ≡ true → c ≡ true → (b && c) ≡ true
both_are b c e f = ap (λ v. v && c) e ∙ f

pub and_second : (b c : Bool) → (b && c) ≡ true → c ≡ true
and_second true c e = e
and_second false c e = cc

-- what nothing goes on with
pub ended : {L : Family Lexeme StmtKind} {left : ℕ} {read : Reader Lexeme StmtKind} → Exactly L (by never) left read → Exactly L goes_stmt_kind left read
ended g = exactly_go (by never) goes_stmt_kind (λ v t i. cc) g

-- ---- labels ([stmt.label])

pub exactly_case : (left : ℕ) → Exactly (λ n. g.case_label n) (by never) left (r.case_label left)
unfolding r.case_label same_class
exactly_case left = exactly_as la.Case (exactly_before (is k.Case) (exactly_behind (is k.Colon) (exactly_cond left) (apart goes_assign (just k.Colon) refl)))

pub exactly_default : (left : ℕ) → Exactly (λ n. g.default_label n) (by never) left (r.default_label left)
unfolding r.default_label
exactly_default left = exactly_as (λ _. la.Default) (exactly_before (is k.Default) exactly_token)

pub exactly_label : (left : ℕ) → Exactly (λ n. g.label n) (by never) left (r.label left)
unfolding r.label same_class
exactly_label left = exactly_as label_of (exactly_measured span_of (exactly_choice (just k.Case) (just k.Default) refl d.heads_case d.heads_default
    (present_at refl (λ n. refl) (exactly_case left)) (exactly_stays refl (λ n. refl) (exactly_default left))))

-- ---- statements without other statements ([stmt.expr], [stmt.jump])

pub exactly_plain_expr : (left : ℕ) → Exactly (λ n. g.plain (e.expr (e.deeper n))) (by (at goes_args)) left (r.plain (x.expr (x.deeper left)))
exactly_plain_expr left = exactly_plain (exactly_expr left) (λ n l y c. c n) (λ n y w s. (n, s))

pub exactly_expr_stmt : (left : ℕ) → Exactly (λ n. g.expr_stmt n) (by never) left (r.expr_stmt left)
unfolding r.expr_stmt same_class
exactly_expr_stmt left = exactly_as kinds.Expr (exactly_behind (is k.Semicolon) (exactly_plain_expr left) (apart goes_args (just k.Semicolon) refl))

pub exactly_returned : (left : ℕ) → Exactly (λ n. g.returned n) (by (at goes_args)) left (r.returned left)
unfolding r.returned same_class
exactly_returned left = exactly_same (swapped (λ n. ret.List <$> e.braces (e.deeper n)) (λ n. ret.Value <$> e.expr (e.deeper n)))
    (exactly_choice (just k.OpenBrace) starts_assign refl (heads_as ret.List h.heads_braces) (heads_as ret.Value h.heads_expr)
    (present_at refl (λ n. refl) (exactly_as ret.List (exactly_widened (never_sub (at goes_args)) (exactly_braces left (sound left)))))
    (exactly_stays refl (λ n. refl) (exactly_as ret.Value (exactly_expr left))))

abbrev pub goes_returned : Class → Bool
goes_returned c = goes_args c || starts_clause c

pub exactly_return : (left : ℕ) → Exactly (λ n. g.return_stmt n) (by never) left (r.return_stmt left)
unfolding r.return_stmt same_class
exactly_return left = exactly_as kinds.Return (exactly_before (is k.Return) (exactly_behind (is k.Semicolon)
    (exactly_maybe (at goes_returned) d.heads_returned (present_at refl (λ n. refl) (exactly_returned left)) (sub goes_args goes_returned refl) (sub starts_clause goes_returned refl))
    (apart goes_returned (just k.Semicolon) refl)))

pub exactly_break : (left : ℕ) → Exactly (λ n. g.break_stmt n) (by never) left (r.break_stmt left)
unfolding r.break_stmt
exactly_break left = exactly_as kinds.Break (exactly_behind (is k.Semicolon) exactly_token (never_apart (is k.Semicolon)))

pub exactly_continue : (left : ℕ) → Exactly (λ n. g.continue_stmt n) (by never) left (r.continue_stmt left)
unfolding r.continue_stmt
exactly_continue left = exactly_as kinds.Continue (exactly_behind (is k.Semicolon) exactly_token (never_apart (is k.Semicolon)))

pub exactly_empty : (left : ℕ) → Exactly (λ n. g.empty_stmt n) (by never) left (r.empty_stmt left)
unfolding r.empty_stmt
exactly_empty left = exactly_as (λ _. kinds.Empty) exactly_token

-- ---- statements with statements

module _ (left : ℕ) (s : Sound left) where
  pub exactly_condition : (x.deeper left).room ≡ true → Exactly (λ n. g.condition n) (by never) left (r.condition left)
  unfolding same_class
  exactly_condition there = exactly_before (is k.OpenParen) (exactly_behind (is k.CloseParen) ((sound left).expr there) (apart goes_args (just k.CloseParen) refl))

  -- an item, and an `else` behind it at most
  pub item_there : (x.deeper left).room ≡ true → Exactly (λ n. (g.deeper n).item) (by (at only_else)) left (r.deeper left).item
  item_there there = exactly_go goes_item (by (at only_else)) (λ v t i. and_first (is k.Else t) _ i) (s.item there)

  pub items_at : ExactlyAt (at starts_item) (λ n. present (g.deeper n).item) (by (at only_else)) left (guarded (x.deeper left).room (r.deeper left).item)
  items_at = exactly_on (at starts_item) (guarded (x.deeper left).room (r.deeper left).item) (λ t ts i. marked (λ n. (x.deeper n).room) h.room left (b.item_marked t i) item_there)

  abbrev pub goes_items : Class → Bool
  goes_items c = only_else c || starts_item c

  pub exactly_items : Exactly (λ n. many (g.deeper n).item) (by (at goes_items)) left (r.items left (r.deeper left))
  unfolding same_class
  exactly_items = exactly_many (at goes_items) d.heads_deep_item items_at (sub only_else goes_items refl) (sub starts_item goes_items refl) (apart only_else starts_item refl)

  pub exactly_block_at : Exactly (λ n. g.block n) (by never) left (r.block left)
  unfolding r.block_with same_class
  exactly_block_at = exactly_as block_of (exactly_measured span_of (exactly_both (exactly_before (is k.OpenBrace) exactly_items) exactly_token (d.heads_place k.CloseBrace) (apart goes_items (just k.CloseBrace) refl)))

  -- ---- if ([stmt.if])

  abbrev pub goes_condition : Condition → Lexeme → Bool
  goes_condition v t = goes_stmt v.1.1 t

  pub if_part_there : (x.deeper left).room ≡ true → Exactly (λ n. is k.If ⊳ maybe (the (is k.Constexpr)) >> g.condition n >> (g.deeper n).stmt) goes_condition left (r.if_part left (r.deeper left))
  unfolding same_class
  if_part_there there = exactly_then (λ v t. goes_stmt v.1 t)
      (exactly_before (is k.If) (exactly_maybe (at (just k.Constexpr)) (heads_the (is k.Constexpr)) (present_at refl (λ n. refl) exactly_token) (never_sub (is k.Constexpr)) (same_sub (is k.Constexpr))))
      (exactly_then goes_stmt (exactly_condition there) (s.stmt there) d.heads_deep_stmt (never_apart (at d.starts_stmt)))
      (heads_both (λ n. (g.deeper n).stmt) d.heads_condition) (apart (just k.Constexpr) (just k.OpenParen) refl)

  abbrev pub goes_tail : Condition × Option Stmt → Lexeme → Bool
  goes_tail (c, None) t = is k.Else t
  goes_tail (c, Some b) t = goes_stmt b t

  pub closed_apart : (b e f : Bool) → not b ≡ true → (e && b) ≡ true → f ≡ true → ⊥
  closed_apart true e f p i j = cc
  closed_apart false e f p i j = let none = and_second e false i in cc

  pub tail_goes : (v : Condition × Option Stmt) (t : Lexeme) → goes_tail v t ≡ true → goes_stmt_kind (if_of v) t ≡ true
  tail_goes (c, None) t i = both_are (is k.Else t) (kind_takes_else (if_of (c, None))) i (o.takes_if c)
  tail_goes (c, Some b) t i = both_are (is k.Else t) (kind_takes_else (if_of (c, Some b))) (and_first (is k.Else t) (takes_else b) i) (o.takes_other c b ∙ and_second (is k.Else t) (takes_else b) i)

  -- where an `else` comes next, the statement before it takes none
  pub if_closed : (ts rest : List Lexeme) (v : Condition) → r.if_part left (r.deeper left) ts ≡ done v rest → sees (is k.Else) rest ≡ true → ends_closed v ≡ true
  if_closed ts rest v e n = ap not ((closes_both (is k.If ▷ maybe_if (is k.Constexpr) (read_the (is k.Constexpr))) (closes_both (r.condition left) s.closed)).at ts rest v e n)

  pub else_there : (x.deeper left).room ≡ true → ExactlyAt (is k.Else) (λ n. present (is k.Else ⊳ (g.deeper n).stmt)) goes_stmt left (r.else_part left (r.deeper left))
  else_there there = present_deep (deep left there) (λ n. refl) (exactly_led goes_stmt (is k.Else) (s.stmt there))

  pub if_there : (x.deeper left).room ≡ true → Exactly (λ n. g.if_stmt n (g.deeper n)) goes_stmt_kind left (if_of <$$> tail_if (is k.Else) (r.if_part left (r.deeper left)) (r.else_part left (r.deeper left)))
  if_there there = exactly_made goes_tail goes_stmt_kind if_of tail_goes
      (exactly_tail ends_closed goes_condition goes_stmt goes_tail (is k.Else) (heads_before {G = λ n. (g.deeper n).stmt} (is k.Else))
      (λ c t p i j. closed_apart (takes_else c.1.1) (is k.Else t) (is k.Else t) p i j) (λ c t i. and_first (is k.Else t) (takes_else c.1.1) i) (λ c t p i. i) (λ c b t i. i)
      (if_part_there there) (else_there there) if_closed)

  pub if_at : ExactlyAt (at (just k.If)) (λ n. present (g.if_stmt n (g.deeper n))) goes_stmt_kind left (r.if_stmt left (r.deeper left))
  unfolding r.if_stmt
  if_at = exactly_on (at (just k.If)) (r.if_stmt left (r.deeper left)) (λ t ts i. marked (λ n. (x.deeper n).room) h.room left (b.if_marked t i) if_there)

  -- ---- loops ([stmt.while], [stmt.do], [stmt.for])

  pub while_there : (x.deeper left).room ≡ true → Exactly (λ n. g.while_stmt n (g.deeper n)) goes_stmt_kind left (while_of <$$> (r.place k.While |> r.condition left |> (r.deeper left).stmt))
  while_there there = exactly_made (λ v t. goes_stmt v.1.1 t) goes_stmt_kind while_of
      (λ v t i. both_are (is k.Else t) (kind_takes_else (while_of v)) (and_first (is k.Else t) (takes_else v.1.1) i) (o.takes_while v ∙ and_second (is k.Else t) (takes_else v.1.1) i))
      (exactly_then (λ v t. goes_stmt v.1 t) exactly_token (exactly_then goes_stmt (exactly_condition there) (s.stmt there) d.heads_deep_stmt (never_apart (at d.starts_stmt)))
      (heads_both (λ n. (g.deeper n).stmt) d.heads_condition) (never_apart (is k.OpenParen)))

  pub while_at : ExactlyAt (at (just k.While)) (λ n. present (g.while_stmt n (g.deeper n))) goes_stmt_kind left (r.while_stmt left (r.deeper left))
  unfolding r.while_stmt
  while_at = exactly_on (at (just k.While)) (r.while_stmt left (r.deeper left)) (λ t ts i. marked (λ n. (x.deeper n).room) h.room left (b.while_marked t i) while_there)

  -- a statement, and an `else` behind it at most
  pub stmt_there : (x.deeper left).room ≡ true → Exactly (λ n. (g.deeper n).stmt) (by (at only_else)) left (r.deeper left).stmt
  stmt_there there = exactly_go goes_stmt (by (at only_else)) (λ v t i. and_first (is k.Else t) (takes_else v) i) (s.stmt there)

  pub do_there : (x.deeper left).room ≡ true → Exactly (λ n. g.do_stmt n (g.deeper n)) goes_stmt_kind left (do_of <$$> (r.place k.Do |> (r.deeper left).stmt |> is k.While ▷ r.condition left ◁ is k.Semicolon))
  unfolding same_class
  do_there there = ended (exactly_as do_of (exactly_both exactly_token
      (exactly_both (stmt_there there) (exactly_before (is k.While) (exactly_behind (is k.Semicolon) (exactly_condition there) (never_apart (is k.Semicolon)))) (heads_before {G = λ n. g.condition n ⊲ is k.Semicolon} (is k.While)) (apart only_else (just k.While) refl))
      (heads_both _ d.heads_deep_stmt) (never_apart (at d.starts_stmt))))

  pub do_at : ExactlyAt (at (just k.Do)) (λ n. present (g.do_stmt n (g.deeper n))) goes_stmt_kind left (r.do_stmt left (r.deeper left))
  unfolding r.do_stmt
  do_at = exactly_on (at (just k.Do)) (r.do_stmt left (r.deeper left)) (λ t ts i. marked (λ n. (x.deeper n).room) h.room left (b.do_marked t i) do_there)

  pub for_there : (x.deeper left).room ≡ true → Exactly (λ n. g.for_stmt n (g.deeper n)) goes_stmt_kind left (for_of <$$> ((r.place k.For |> is k.OpenParen ▷ r.for_head left ◁ is k.CloseParen) |> (r.deeper left).stmt))
  unfolding same_class
  for_there there = exactly_made (λ v t. goes_stmt v.1 t) goes_stmt_kind for_of
      (λ v t i. both_are (is k.Else t) (kind_takes_else (for_of v)) (and_first (is k.Else t) (takes_else v.1) i) (o.takes_for_by v.0.0 v.0.1 v.1 ∙ and_second (is k.Else t) (takes_else v.1) i))
      (exactly_then goes_stmt
      (exactly_both exactly_token (exactly_before (is k.OpenParen) (exactly_behind (is k.CloseParen) (exactly_for_head left there) (apart goes_head (just k.CloseParen) refl))) (heads_before {G = λ n. g.for_head n ⊲ is k.CloseParen} (is k.OpenParen)) (never_apart (is k.OpenParen)))
      (s.stmt there) d.heads_deep_stmt (never_apart (at d.starts_stmt)))

  pub for_at : ExactlyAt (at (just k.For)) (λ n. present (g.for_stmt n (g.deeper n))) goes_stmt_kind left (r.for_stmt left (r.deeper left))
  unfolding r.for_stmt
  for_at = exactly_on (at (just k.For)) (r.for_stmt left (r.deeper left)) (λ t ts i. marked (λ n. (x.deeper n).room) h.room left (b.for_marked t i) for_there)

  -- ---- switch ([stmt.switch])

  pub switch_item_there : (x.deeper left).room ≡ true → Exactly (λ n. g.switch_item n (g.deeper n)) (by (at only_else)) left (r.switch_item left (r.deeper left))
  unfolding r.switch_item same_class
  switch_item_there there = exactly_choice starts_label starts_item refl (heads_as sw.Label d.heads_label) (heads_as sw.Item d.heads_deep_item)
      (present_at refl (λ n. refl) (exactly_as sw.Label (exactly_widened (never_sub (at only_else)) (exactly_label left))))
      (exactly_deep (deep left there) (λ n. refl) (exactly_as sw.Item (item_there there)))

  abbrev pub goes_switch_items : Class → Bool
  goes_switch_items c = only_else c || starts_switch_item c

  pub switch_there : (x.deeper left).room ≡ true → Exactly (λ n. g.switch_stmt n (g.deeper n)) goes_stmt_kind left (switch_of <$$> ((is k.Switch ▷ r.condition left) |> is k.OpenBrace ▷ r.switch_items left (r.deeper left) ◁ is k.CloseBrace))
  unfolding same_class
  switch_there there = ended (exactly_as switch_of (exactly_both (exactly_before (is k.Switch) (exactly_condition there))
      (exactly_before (is k.OpenBrace) (exactly_behind (is k.CloseBrace)
      (exactly_many (at goes_switch_items) d.heads_switch_item (present_at refl (λ n. refl) (switch_item_there there)) (sub only_else goes_switch_items refl) (sub starts_switch_item goes_switch_items refl) (apart only_else starts_switch_item refl))
      (apart goes_switch_items (just k.CloseBrace) refl)))
      (heads_before {G = λ n. many (g.switch_item n (g.deeper n)) ⊲ is k.CloseBrace} (is k.OpenBrace)) (never_apart (is k.OpenBrace))))

  pub switch_at : ExactlyAt (at (just k.Switch)) (λ n. present (g.switch_stmt n (g.deeper n))) goes_stmt_kind left (r.switch_stmt left (r.deeper left))
  unfolding r.switch_stmt
  switch_at = exactly_on (at (just k.Switch)) (r.switch_stmt left (r.deeper left)) (λ t ts i. marked (λ n. (x.deeper n).room) h.room left (b.switch_marked t i) switch_there)

  -- ---- the choice among statements

  pub exactly_return_or_expr : Exactly d.return_or_expr goes_stmt_kind left (choose (just k.Return) (r.return_stmt left) (r.expr_stmt left))
  unfolding same_class
  exactly_return_or_expr = exactly_choice (just k.Return) starts_assign refl d.heads_return d.heads_expr_stmt (present_at refl (λ n. refl) (ended (exactly_return left))) (exactly_stays refl (λ n. refl) (ended (exactly_expr_stmt left)))

  pub exactly_continue_or_more : Exactly d.continue_or_more goes_stmt_kind left (choose (just k.Continue) (r.continue_stmt left) (choose (just k.Return) (r.return_stmt left) (r.expr_stmt left)))
  unfolding same_class
  exactly_continue_or_more = exactly_choice (just k.Continue) d.starts_return_or_expr refl d.heads_continue d.heads_return_or_expr (present_at refl (λ n. refl) (ended (exactly_continue left))) (exactly_pair exactly_return_or_expr)

  pub exactly_jump : Exactly d.break_or_more goes_stmt_kind left (r.jump_stmt left (r.deeper left))
  unfolding r.jump_stmt same_class
  exactly_jump = exactly_choice (just k.Break) d.starts_continue_or_more refl d.heads_break d.heads_continue_or_more (present_at refl (λ n. refl) (ended (exactly_break left))) (exactly_pair exactly_continue_or_more)

  pub exactly_loop : Exactly d.while_or_more goes_stmt_kind left (r.loop_stmt left (r.deeper left))
  unfolding r.loop_stmt same_class
  exactly_loop = exactly_choice (just k.While) d.starts_do_or_more refl d.heads_while d.heads_do_or_more while_at (exactly_pair
      (exactly_choice (just k.Do) d.starts_for_or_more refl d.heads_do d.heads_for_or_more do_at (exactly_pair
      (exactly_choice (just k.For) d.starts_switch_or_more refl d.heads_for d.heads_switch_or_more for_at (exactly_pair
      (exactly_choice (just k.Switch) d.starts_break_or_more refl d.heads_switch d.heads_break_or_more switch_at (exactly_pair exactly_jump)))))))

  pub exactly_stmt_kind : Exactly (λ n. g.stmt_kind n (g.deeper n)) goes_stmt_kind left (r.stmt_kind left (r.deeper left))
  unfolding r.stmt_kind same_class
  exactly_stmt_kind = exactly_choice (just k.OpenBrace) d.starts_empty_or_more refl d.heads_block_stmt d.heads_empty_or_more (present_at refl (λ n. refl) (ended (exactly_as kinds.Block exactly_block_at))) (exactly_pair
      (exactly_choice (just k.Semicolon) d.starts_if_or_more refl d.heads_empty d.heads_if_or_more (present_at refl (λ n. refl) (ended (exactly_empty left))) (exactly_pair
      (exactly_choice (just k.If) d.starts_while_or_more refl d.heads_if d.heads_while_or_more if_at (exactly_pair exactly_loop)))))

  pub exactly_stmt_at : Exactly (λ n. g.stmt n) goes_stmt left (r.stmt left)
  unfolding r.stmt_with same_class
  exactly_stmt_at = exactly_made (λ v t. goes_stmt_kind v.0.1 t) goes_stmt stmt_of
      (λ v t i. both_are (is k.Else t) (takes_else (stmt_of v)) (and_first (is k.Else t) (kind_takes_else v.0.1) i) (o.takes_stmt v ∙ and_second (is k.Else t) (kind_takes_else v.0.1) i))
      (exactly_spanned span_of (λ v t. goes_stmt_kind v.1 t) (exactly_then goes_stmt_kind (exactly_attrs left) exactly_stmt_kind d.heads_stmt_kind (apart goes_attrs starts_stmt_kind refl)))
