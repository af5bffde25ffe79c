-- The symbols, each at so many levels that are left, and their readers.
use Rattle.std.specs.Prelude.{ℕ}
use Rattle.cx_tree.specs.declared.stmts.Block.{Block}
use Rattle.cx_tree.specs.declared.stmts.Item.{Item}
use Rattle.cx_tree.specs.declared.stmts.Label.{Label}
use Rattle.cx_tree.specs.declared.stmts.Stmt.{Stmt}
use Rattle.cx_syntax.specs.declared.lexeme.Lexeme.{Lexeme}
use Rattle.cx_grammar.specs.Exact.{Family}
use Rattle.cx_grammar.specs.Reading.{Reader}
use Rattle.cx_syntax_stmts.specs.Grammar as grammar
use Rattle.cx_syntax_stmts.specs.Readers as readers

abbrev pub label : Family Lexeme Label
label n = grammar.label n

abbrev pub stmt : Family Lexeme Stmt
stmt n = grammar.stmt n

abbrev pub item : Family Lexeme Item
item n = grammar.item n

abbrev pub block : Family Lexeme Block
block n = grammar.block n

-- ---- readers

abbrev pub labels : ℕ → Reader Lexeme Label
labels n = readers.label n

abbrev pub stmts : ℕ → Reader Lexeme Stmt
stmts n = readers.stmt n

abbrev pub items : ℕ → Reader Lexeme Item
items n = readers.item n

abbrev pub blocks : ℕ → Reader Lexeme Block
blocks n = readers.block n
