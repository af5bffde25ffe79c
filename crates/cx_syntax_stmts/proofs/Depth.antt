-- What the rules of statements begin with, and the rules one level deeper.
use Rattle.std.proofs.Common.{Bool, ◌||◌, refl, inl, inr}
use Rattle.cx_grammar.specs.Language.{◌>>◌, ◌<$>◌, ◌∥◌, ◌⊲◌, the, maybe, many, present, with_tail, alone, along}
use Rattle.cx_grammar.specs.Exact.{Family}
use Rattle.cx_grammar.proofs.Heads.{Heads, heads_as, heads_both, heads_before, heads_behind, heads_or, heads_sub, heads_such, heads_the, heads_measured, heads_unless, opens_sub}
use Rattle.cx_grammar.proofs.Levels.{Below, heads_below}
use Rattle.cx_tree.specs.declared.stmts.Item.{Item}
use Rattle.cx_tree.specs.declared.stmts.Item.TheVariants as i
use Rattle.cx_tree.specs.declared.stmts.LabelKind.TheVariants as la
use Rattle.cx_tree.specs.declared.stmts.Returned.TheVariants as ret
use Rattle.cx_tree.specs.declared.stmts.StmtKind.{StmtKind}
use Rattle.cx_tree.specs.declared.stmts.StmtKind.TheVariants as kinds
use Rattle.cx_tree.specs.declared.stmts.SwitchItem.TheVariants as sw
use Rattle.cx_syntax.specs.declared.class.Class.{Class}
use Rattle.cx_syntax.specs.declared.class.Class.TheVariants as k
use Rattle.cx_syntax.specs.declared.lexeme.Lexeme.{Lexeme}
use Rattle.cx_syntax.specs.Classes.{is, same_class}
use Rattle.cx_syntax.specs.Grammar as e
use Rattle.cx_syntax.specs.Readers.{just}
use Rattle.cx_syntax.specs.Sets.{starts_assign, starts_clause}
use Rattle.cx_syntax.proofs.Basics.{at, sub, heads_pick, heads_after}
use Rattle.cx_syntax.proofs.Depth as h
use Rattle.cx_syntax_parts.specs.Grammar as pg
use Rattle.cx_syntax_parts.proofs.Soup.{opens_attrs}
use Rattle.cx_syntax_parts.proofs.Declarations.{blank_attrs, heads_assert, heads_alias}
use Rattle.cx_syntax_parts.proofs.Enums.{heads_enum}
use Rattle.cx_syntax_vars.specs.Grammar as v
use Rattle.cx_syntax_vars.specs.Sets.{starts_param}
use Rattle.cx_syntax_vars.proofs.Typedefs.{heads_typedef}
use Rattle.cx_syntax_vars.proofs.Locals.{heads_local}
use Rattle.cx_syntax_stmts.specs.Ahead.{type_end, begins_call}
use Rattle.cx_syntax_stmts.specs.Grammar as g
use Rattle.cx_syntax_stmts.specs.Sets.{starts_label, starts_stmt_kind, starts_item, starts_switch_item}
use Rattle.cx_syntax_stmts.specs.Values.{place_of, if_of, while_of, do_of, for_of, switch_of, stmt_of, label_of, block_of}

-- ---- a part with a tail

pub heads_with_tail : {T A B : Type 0} {G : Family T A} {H : Family T B} {q : T → Bool} (p : A → Bool) → Heads G q → Heads (λ n. with_tail p (G n) (H n)) q
heads_with_tail {G = G} {H = H} p h = let f = heads_as alone h in let s = heads_as along (heads_both (λ n. present (H n)) (heads_such p h)) in record {
  blank = λ n. inl (h.blank n);
  full = λ n w z. elim z [ inl a ↦ f.full n w a | inr b ↦ s.full n w b ];
  spells = λ n t x w z. elim z [ inl a ↦ f.spells n t x w a | inr b ↦ s.spells n t x w b ];
  begins = λ n t x z. elim z [ inl a ↦ f.begins n t x a | inr b ↦ s.begins n t x b ];
}

-- ---- parts

pub heads_place : (c : Class) → Heads (λ n. g.place c) (at (just c))
heads_place c = heads_pick (just c) place_of

pub heads_condition : Heads (λ n. g.condition n) (at (just k.OpenParen))
heads_condition = heads_before {G = λ n. (e.deeper n).expr ⊲ is k.CloseParen} (is k.OpenParen)

pub heads_case : Heads (λ n. g.case_label n) (at (just k.Case))
heads_case = heads_as la.Case (heads_before {G = λ n. e.cond (e.deeper n) ⊲ is k.Colon} (is k.Case))

pub heads_default : Heads (λ n. g.default_label n) (at (just k.Default))
heads_default = heads_as (λ _. la.Default) (heads_before {G = λ n. the (is k.Colon)} (is k.Default))

pub heads_label : Heads (λ n. g.label n) (at starts_label)
unfolding same_class
heads_label = heads_as label_of (heads_measured _ (heads_sub (sub (λ c. just k.Case c || just k.Default c) starts_label refl) (heads_or heads_case heads_default)))

pub heads_returned : Heads (λ n. g.returned n) (at starts_clause)
unfolding same_class
heads_returned = heads_sub (sub (λ c. starts_assign c || just k.OpenBrace c) starts_clause refl) (heads_or (heads_as ret.Value h.heads_expr) (heads_as ret.List h.heads_braces))

-- ---- statements

pub heads_block : Heads (λ n. g.block n) (at (just k.OpenBrace))
heads_block = heads_as block_of (heads_measured _ (heads_both (λ n. g.place k.CloseBrace) (heads_before {G = λ n. many (g.deeper n).item} (is k.OpenBrace))))

pub heads_block_stmt : Heads (λ n. kinds.Block <$> g.block n) (at (just k.OpenBrace))
heads_block_stmt = heads_as kinds.Block heads_block

pub heads_empty : Heads (λ n. g.empty_stmt n) (at (just k.Semicolon))
heads_empty = heads_as (λ _. kinds.Empty) (heads_the (is k.Semicolon))

pub heads_if : Heads (λ n. g.if_stmt n (g.deeper n)) (at (just k.If))
heads_if = heads_as if_of (heads_with_tail _ (heads_both (λ n. g.condition n >> (g.deeper n).stmt) (heads_before {G = λ n. maybe (the (is k.Constexpr))} (is k.If))))

pub heads_while : Heads (λ n. g.while_stmt n (g.deeper n)) (at (just k.While))
heads_while = heads_as while_of (heads_both _ (heads_place k.While))

pub heads_do : Heads (λ n. g.do_stmt n (g.deeper n)) (at (just k.Do))
heads_do = heads_as do_of (heads_both _ (heads_place k.Do))

pub heads_for : Heads (λ n. g.for_stmt n (g.deeper n)) (at (just k.For))
heads_for = heads_as for_of (heads_both (λ n. (g.deeper n).stmt) (heads_both _ (heads_place k.For)))

pub heads_switch : Heads (λ n. g.switch_stmt n (g.deeper n)) (at (just k.Switch))
heads_switch = heads_as switch_of (heads_both _ (heads_before {G = λ n. g.condition n} (is k.Switch)))

pub heads_break : Heads (λ n. g.break_stmt n) (at (just k.Break))
heads_break = heads_as kinds.Break (heads_behind (is k.Semicolon) (heads_place k.Break))

pub heads_continue : Heads (λ n. g.continue_stmt n) (at (just k.Continue))
heads_continue = heads_as kinds.Continue (heads_behind (is k.Semicolon) (heads_place k.Continue))

pub heads_return : Heads (λ n. g.return_stmt n) (at (just k.Return))
heads_return = heads_as kinds.Return (heads_before {G = λ n. maybe (g.returned n) ⊲ is k.Semicolon} (is k.Return))

pub heads_expr_stmt : Heads (λ n. g.expr_stmt n) (at starts_assign)
unfolding type_end
heads_expr_stmt = heads_as kinds.Expr (heads_behind (is k.Semicolon) (heads_unless begins_call refl h.heads_expr))

-- ---- the end of the choice among statements

abbrev pub return_or_expr : Family Lexeme StmtKind
return_or_expr n = g.return_stmt n ∥ g.expr_stmt n

abbrev pub continue_or_more : Family Lexeme StmtKind
continue_or_more n = g.continue_stmt n ∥ return_or_expr n

abbrev pub break_or_more : Family Lexeme StmtKind
break_or_more n = g.break_stmt n ∥ continue_or_more n

abbrev pub switch_or_more : Family Lexeme StmtKind
switch_or_more n = g.switch_stmt n (g.deeper n) ∥ break_or_more n

abbrev pub for_or_more : Family Lexeme StmtKind
for_or_more n = g.for_stmt n (g.deeper n) ∥ switch_or_more n

abbrev pub do_or_more : Family Lexeme StmtKind
do_or_more n = g.do_stmt n (g.deeper n) ∥ for_or_more n

abbrev pub while_or_more : Family Lexeme StmtKind
while_or_more n = g.while_stmt n (g.deeper n) ∥ do_or_more n

abbrev pub if_or_more : Family Lexeme StmtKind
if_or_more n = g.if_stmt n (g.deeper n) ∥ while_or_more n

abbrev pub empty_or_more : Family Lexeme StmtKind
empty_or_more n = g.empty_stmt n ∥ if_or_more n

abbrev pub starts_return_or_expr : Class → Bool
starts_return_or_expr c = just k.Return c || starts_assign c

abbrev pub starts_continue_or_more : Class → Bool
starts_continue_or_more c = just k.Continue c || starts_return_or_expr c

abbrev pub starts_break_or_more : Class → Bool
starts_break_or_more c = just k.Break c || starts_continue_or_more c

abbrev pub starts_switch_or_more : Class → Bool
starts_switch_or_more c = just k.Switch c || starts_break_or_more c

abbrev pub starts_for_or_more : Class → Bool
starts_for_or_more c = just k.For c || starts_switch_or_more c

abbrev pub starts_do_or_more : Class → Bool
starts_do_or_more c = just k.Do c || starts_for_or_more c

abbrev pub starts_while_or_more : Class → Bool
starts_while_or_more c = just k.While c || starts_do_or_more c

abbrev pub starts_if_or_more : Class → Bool
starts_if_or_more c = just k.If c || starts_while_or_more c

abbrev pub starts_empty_or_more : Class → Bool
starts_empty_or_more c = just k.Semicolon c || starts_if_or_more c

pub heads_return_or_expr : Heads return_or_expr (at starts_return_or_expr)
heads_return_or_expr = heads_or heads_return heads_expr_stmt

pub heads_continue_or_more : Heads continue_or_more (at starts_continue_or_more)
heads_continue_or_more = heads_or heads_continue heads_return_or_expr

pub heads_break_or_more : Heads break_or_more (at starts_break_or_more)
heads_break_or_more = heads_or heads_break heads_continue_or_more

pub heads_switch_or_more : Heads switch_or_more (at starts_switch_or_more)
heads_switch_or_more = heads_or heads_switch heads_break_or_more

pub heads_for_or_more : Heads for_or_more (at starts_for_or_more)
heads_for_or_more = heads_or heads_for heads_switch_or_more

pub heads_do_or_more : Heads do_or_more (at starts_do_or_more)
heads_do_or_more = heads_or heads_do heads_for_or_more

pub heads_while_or_more : Heads while_or_more (at starts_while_or_more)
heads_while_or_more = heads_or heads_while heads_do_or_more

pub heads_if_or_more : Heads if_or_more (at starts_if_or_more)
heads_if_or_more = heads_or heads_if heads_while_or_more

pub heads_empty_or_more : Heads empty_or_more (at starts_empty_or_more)
heads_empty_or_more = heads_or heads_empty heads_if_or_more

pub heads_stmt_kind : Heads (λ n. g.stmt_kind n (g.deeper n)) (at starts_stmt_kind)
unfolding same_class
heads_stmt_kind = heads_sub (sub (λ c. just k.OpenBrace c || starts_empty_or_more c) starts_stmt_kind refl) (heads_or heads_block_stmt heads_empty_or_more)

abbrev pub starts_stmt : Class → Bool
starts_stmt c = just k.OpenBracket c || starts_stmt_kind c

pub heads_stmt : Heads (λ n. g.stmt n) (at starts_stmt)
unfolding same_class
heads_stmt = heads_as stmt_of (heads_measured _ (heads_after (opens_sub (sub (just k.OpenBracket) starts_stmt refl) opens_attrs) blank_attrs (heads_sub (sub starts_stmt_kind starts_stmt refl) heads_stmt_kind)))

-- ---- what stands in a block

abbrev pub starts_plain : Class → Bool
starts_plain c = starts_stmt c || starts_param c

abbrev pub starts_enum_or_plain : Class → Bool
starts_enum_or_plain c = just k.Enum c || starts_plain c

abbrev pub starts_typedef_or_more : Class → Bool
starts_typedef_or_more c = just k.Typedef c || starts_enum_or_plain c

abbrev pub starts_alias_or_more : Class → Bool
starts_alias_or_more c = just k.Using c || starts_typedef_or_more c

abbrev pub plain_items : Family Lexeme Item
plain_items n = (i.Stmt <$> g.stmt n) ∥ (i.Local <$> v.local n)

abbrev pub enum_or_plain : Family Lexeme Item
enum_or_plain n = (i.Enum <$> pg.enum n) ∥ plain_items n

abbrev pub typedef_or_more : Family Lexeme Item
typedef_or_more n = (i.Typedef <$> v.typedef) ∥ enum_or_plain n

abbrev pub alias_or_more : Family Lexeme Item
alias_or_more n = (i.Alias <$> pg.alias n) ∥ typedef_or_more n

pub heads_plain_items : Heads plain_items (at starts_plain)
heads_plain_items = heads_or (heads_as i.Stmt heads_stmt) (heads_as i.Local heads_local)

pub heads_enum_or_plain : Heads enum_or_plain (at starts_enum_or_plain)
heads_enum_or_plain = heads_or (heads_as i.Enum heads_enum) heads_plain_items

pub heads_typedef_or_more : Heads typedef_or_more (at starts_typedef_or_more)
heads_typedef_or_more = heads_or (heads_as i.Typedef heads_typedef) heads_enum_or_plain

pub heads_alias_or_more : Heads alias_or_more (at starts_alias_or_more)
heads_alias_or_more = heads_or (heads_as i.Alias heads_alias) heads_typedef_or_more

pub heads_item : Heads (λ n. g.item n) (at starts_item)
unfolding same_class
heads_item = heads_sub (sub (λ c. just k.StaticAssert c || starts_alias_or_more c) starts_item refl) (heads_or (heads_as i.Assert heads_assert) heads_alias_or_more)

-- ---- one level deeper

pub below_stmt : Below (λ n. (g.deeper n).stmt) (λ n. g.stmt n)
below_stmt = record { none = refl; one_less = λ n. refl }

pub below_item : Below (λ n. (g.deeper n).item) (λ n. g.item n)
below_item = record { none = refl; one_less = λ n. refl }

pub heads_deep_stmt : Heads (λ n. (g.deeper n).stmt) (at starts_stmt)
heads_deep_stmt = heads_below below_stmt heads_stmt

pub heads_deep_item : Heads (λ n. (g.deeper n).item) (at starts_item)
heads_deep_item = heads_below below_item heads_item

pub heads_switch_item : Heads (λ n. g.switch_item n (g.deeper n)) (at starts_switch_item)
heads_switch_item = heads_or (heads_as sw.Label heads_label) (heads_as sw.Item heads_deep_item)
