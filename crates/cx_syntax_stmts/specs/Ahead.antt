-- What the tokens ahead tell of a statement: whether it begins with a type and `(`, and whether an enumeration stands there.
use Rattle.std.specs.Prelude.{ℕ, Bool, ◌&&◌, ◌||◌, List, length, Option, Some, None, if◌then◌else◌}
use Rattle.cx_syntax.specs.declared.class.Class.TheVariants as k
use Rattle.cx_syntax.specs.declared.lexeme.Lexeme.{Lexeme}
use Rattle.cx_grammar.specs.Reading.{sees}
use Rattle.cx_grammar.specs.Reads.{tail_of}
use Rattle.cx_grammar.specs.Sets.{of}
use Rattle.cx_syntax.specs.Classes.{class_at, is}
use Rattle.cx_syntax.specs.Sets.{is_type, is_word}
use Rattle.cx_syntax.specs.Ahead.{qtype_end}
use Rattle.cx_syntax.specs.Values.{is_there}
use Rattle.cx_syntax_stmts.specs.Sets.{follows_enum, follows_enum_name}

-- what is left behind the word of a type or a qtype, if one stands there
unfoldable pub type_end : List Lexeme → Option (List Lexeme)
type_end ts = if sees (of class_at is_word) ts then Some (tail_of ts) else qtype_end ts

abbrev pub at_paren : Option (List Lexeme) → Option ℕ
at_paren None = None
at_paren (Some rest) = if sees (is k.OpenParen) rest then Some (length rest) else None

-- how many tokens there are from the `(` behind a type on, if the tokens begin with these two
abbrev pub call_at : List Lexeme → Option ℕ
call_at ts = at_paren (type_end ts)

-- the tokens begin with a type and `(` ([dcl.ambig.res])
abbrev pub begins_call : List Lexeme → Bool
begins_call ts = is_there (call_at ts)

-- behind `enum` stands what only an enumeration goes on with, or a TYPE and such a token
abbrev pub enum_behind : List Lexeme → Bool
enum_behind ts = sees (of class_at follows_enum) ts || (sees (of class_at is_type) ts && sees (of class_at follows_enum_name) (tail_of ts))

-- an enumeration comes next, and no variable of one
abbrev pub enum_ahead : List Lexeme → Bool
enum_ahead ts = sees (is k.Enum) ts && enum_behind (tail_of ts)
