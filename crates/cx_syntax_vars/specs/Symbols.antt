-- The symbols, each at so many levels that are left, and their readers.
use Rattle.std.specs.Prelude.{ℕ, List}
use Rattle.cx_tree.specs.declared.specifiers.Specs.{Specs}
use Rattle.cx_tree.specs.declared.decls.Typedef.{Typedef}
use Rattle.cx_tree.specs.declared.decls.Param.{Param}
use Rattle.cx_tree.specs.declared.stmts.Init.{Init}
use Rattle.cx_tree.specs.declared.stmts.Local.{Local}
use Rattle.cx_tree.specs.declared.stmts.Var.{Var}
use Rattle.cx_syntax.specs.declared.lexeme.Lexeme.{Lexeme}
use Rattle.cx_grammar.specs.Exact.{Family}
use Rattle.cx_grammar.specs.Reading.{Reader}
use Rattle.cx_syntax_vars.specs.Grammar as grammar
use Rattle.cx_syntax_vars.specs.Readers as readers

abbrev pub typedef : Family Lexeme Typedef
typedef n = grammar.typedef

abbrev pub init : Family Lexeme Init
init n = grammar.init n

abbrev pub var : Family Lexeme Var
var n = grammar.var n

abbrev pub vars : Family Lexeme (List Var)
vars n = grammar.vars n

abbrev pub param : Family Lexeme Param
param n = grammar.param n

abbrev pub params : Family Lexeme (List Param)
params n = grammar.params n

abbrev pub declared : Family Lexeme (Specs × List Var)
declared n = grammar.declared n

abbrev pub local : Family Lexeme Local
local n = grammar.local n

abbrev pub bare_local : Family Lexeme Local
bare_local n = grammar.bare_local n

-- ---- readers

abbrev pub typedefs : ℕ → Reader Lexeme Typedef
typedefs n = readers.typedef

abbrev pub inits : ℕ → Reader Lexeme Init
inits n = readers.init n

abbrev pub var_reads : ℕ → Reader Lexeme Var
var_reads n = readers.var n

abbrev pub vars_read : ℕ → Reader Lexeme (List Var)
vars_read n = readers.vars n

abbrev pub param_reads : ℕ → Reader Lexeme Param
param_reads n = readers.param n

abbrev pub params_read : ℕ → Reader Lexeme (List Param)
params_read n = readers.params n

abbrev pub declared_read : ℕ → Reader Lexeme (Specs × List Var)
declared_read n = readers.declared n

abbrev pub locals : ℕ → Reader Lexeme Local
locals n = readers.local n

abbrev pub bare_locals : ℕ → Reader Lexeme Local
bare_locals n = readers.bare_local n
