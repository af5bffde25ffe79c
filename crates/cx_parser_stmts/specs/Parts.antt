-- What the functions read by the way.
use Rattle.std.specs.Prelude.{◌≡◌, ℕ, Bool, false, List, Option, Result, Ok, Err}
use Rattle.cx_base.specs.declared.Memory.{Memory}
use Rattle.cx_base.specs.declared.diag.Span.{Span}
use Rattle.cx_tree.specs.declared.exprs.Expr.{Expr}
use Rattle.cx_tree.specs.declared.stmts.Item.TheVariants as i
use Rattle.cx_tree.specs.declared.stmts.Item.{Item}
use Rattle.cx_tree.specs.declared.stmts.LabelKind.{LabelKind}
use Rattle.cx_tree.specs.declared.stmts.Returned.{Returned}
use Rattle.cx_tree.specs.declared.stmts.StmtKind.TheVariants as s
use Rattle.cx_tree.specs.declared.stmts.StmtKind.{StmtKind}
use Rattle.cx_tree.specs.declared.stmts.SwitchItem.{SwitchItem}
use Rattle.cx_grammar.specs.Reading.{Reader, sees, maybe_if, ◌>>◌, ◌<$>◌, ◌⊲◌, the, guarded, ◌⊳◌}
use Rattle.cx_grammar.specs.Sets.{of}
use Rattle.cx_grammar.specs.declared.stop.ParseStop.TheVariants.{Fault}
use Rattle.cx_grammar.specs.declared.stop.ParseStop.{ParseStop}
use Rattle.cx_syntax.specs.Classes.{class_at, is}
use Rattle.cx_syntax.specs.Readers.{choose, just, deeper}
use Rattle.cx_syntax.specs.Sets.{starts_assign, starts_clause}
use Rattle.cx_syntax.specs.declared.class.Class.TheVariants as k
use Rattle.cx_syntax.specs.declared.lexeme.Lexeme.{Lexeme}
use Rattle.cx_syntax_parts.specs.Readers.{assert, alias, enum}
use Rattle.cx_syntax_stmts.specs.Readers as r
use Rattle.cx_syntax_stmts.specs.Values.{steps_of, range_of, vars_of}
use Rattle.cx_syntax_stmts.specs.declared.parts.BehindAttrs.TheVariants as behind
use Rattle.cx_syntax_stmts.specs.declared.parts.BehindAttrs.{BehindAttrs}
use Rattle.cx_syntax_stmts.specs.declared.parts.ForHead.{ForHead}
use Rattle.cx_syntax_vars.specs.Readers.{typedef, declared}

abbrev pub label_kind : ℕ → Reader Lexeme LabelKind
label_kind left = choose (just k.Case) (r.case_label left) (r.default_label left)

-- what a `return` gives, if it gives anything
abbrev pub maybe_returned : ℕ → Reader Lexeme (Option Returned)
maybe_returned left = maybe_if (of class_at starts_clause) (r.returned left)

-- ---- what stands in the parentheses of a `for`

abbrev pub maybe_plain : ℕ → Reader Lexeme (Option Expr)
maybe_plain left = maybe_if (of class_at starts_assign) (r.plain (deeper left).expr)

-- the condition and the step
abbrev pub steps_end : ℕ → Reader Lexeme (Option Expr × Option Expr)
steps_end left = (r.maybe_expr left ⊲ is k.Semicolon) >> r.maybe_expr left

abbrev pub steps_head : ℕ → Reader Lexeme ForHead
steps_head left = steps_of <$> r.for_steps left

abbrev pub range_head : ℕ → Reader Lexeme ForHead
range_head left = range_of <$> r.for_range left

-- Whether `:` stands where what was read ends: never behind a fault. Without memory nothing is known.
abbrev pub ColonSeen : {A : Type 0} → Result A ParseStop → List Lexeme → Result Bool Memory → Type 0
ColonSeen found rest (Err e) = Unit {0}
ColonSeen (Ok v) rest (Ok b) = b ≡ sees (is k.Colon) rest
ColonSeen (Err (Fault rule left)) rest (Ok b) = b ≡ false
ColonSeen (Err e) rest (Ok b) = ⊥

-- ---- blocks

-- what stands in a block, where there is a level deeper
abbrev pub item_there : ℕ → Reader Lexeme Item
item_there n = guarded (r.room n) (r.deeper n).item

abbrev pub block_stmt : ℕ → Reader Lexeme StmtKind
block_stmt n = s.Block <$> r.block n

abbrev pub empty_stmt : Reader Lexeme StmtKind
empty_stmt = (λ _. s.Empty) <$> the (is k.Semicolon)

-- ---- statements with statements

-- labels and items in braces
abbrev pub switch_body : ℕ → Reader Lexeme (List SwitchItem)
switch_body n = is k.OpenBrace ⊳ r.switch_items n (r.deeper n) ⊲ is k.CloseBrace

-- `for` and what stands in its parentheses
abbrev pub for_begin : ℕ → Reader Lexeme (Span × ForHead)
for_begin n = r.place k.For >> is k.OpenParen ⊳ r.for_head n ⊲ is k.CloseParen

-- what stands behind the statement of a `do`
abbrev pub do_end : ℕ → Reader Lexeme Expr
do_end n = is k.While ⊳ r.condition n ⊲ is k.Semicolon

-- ---- what stands in a block

abbrev pub assert_item : ℕ → Reader Lexeme Item
assert_item n = i.Assert <$> assert n

abbrev pub alias_item : ℕ → Reader Lexeme Item
alias_item n = i.Alias <$> alias n

abbrev pub typedef_item : Reader Lexeme Item
typedef_item = i.Typedef <$> typedef

abbrev pub enum_item : ℕ → Reader Lexeme Item
enum_item n = i.Enum <$> enum n

-- variables behind attributes
abbrev pub vars_behind : ℕ → Reader Lexeme BehindAttrs
vars_behind n = vars_of <$> declared n
