-- Which tokens can go on with what was read by a rule: an `else`, where an `if` in it has none ([stmt.if]).
use Rattle.std.specs.Prelude.{Bool, ◌&&◌}
use Rattle.cx_tree.specs.declared.stmts.Item.{Item}
use Rattle.cx_tree.specs.declared.stmts.Stmt.{Stmt}
use Rattle.cx_tree.specs.declared.stmts.StmtKind.{StmtKind}
use Rattle.cx_syntax.specs.declared.class.Class.TheVariants as k
use Rattle.cx_syntax.specs.declared.lexeme.Lexeme.{Lexeme}
use Rattle.cx_syntax.specs.Classes.{is}
use Rattle.cx_syntax_stmts.specs.Values.{takes_else, kind_takes_else, item_takes_else}

abbrev pub goes_stmt : Stmt → Lexeme → Bool
goes_stmt v t = is k.Else t && takes_else v

-- a statement behind its attributes
abbrev pub goes_stmt_kind : StmtKind → Lexeme → Bool
goes_stmt_kind v t = is k.Else t && kind_takes_else v

abbrev pub goes_item : Item → Lexeme → Bool
goes_item v t = is k.Else t && item_takes_else v
