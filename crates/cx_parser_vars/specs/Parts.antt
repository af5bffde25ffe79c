-- What the functions read by the way.
use Rattle.std.specs.Prelude.{◌≡◌, ℕ, List, length, Option, Some, None, Result, Ok, Err, if◌then◌else◌}
use Rattle.cx_grammar.specs.declared.stop.ParseStop.{ParseStop}
use Rattle.cx_grammar.specs.declared.stop.ParseStop.TheVariants.{Memory}
use Rattle.cx_grammar.specs.Reading.{Reader, guarded, maybe_if, sees, ◌⊳◌}
use Rattle.cx_grammar.specs.Reads.{tail_of}
use Rattle.cx_grammar.specs.Sets.{of}
use Rattle.cx_tree.specs.declared.names.Ident.{Ident}
use Rattle.cx_tree.specs.declared.decls.Enumerator.{Enumerator}
use Rattle.cx_syntax.specs.declared.class.Class.TheVariants as k
use Rattle.cx_syntax.specs.declared.lexeme.Lexeme.{Lexeme}
use Rattle.cx_syntax.specs.Classes.{class_at, is}
use Rattle.cx_syntax.specs.Sets.{is_id, starts_assign}
use Rattle.cx_syntax.specs.Readers.{id}
use Rattle.cx_syntax_parts.specs.Readers as r
use Rattle.cx_syntax_vars.specs.Ahead.{type_made_at}

-- ---- attributes and `noexcept`

-- soup one level deeper, where there is such a level
abbrev pub soup_below : ℕ → Reader Lexeme ℕ
soup_below left = guarded (r.deeper_soup left).room (r.deeper_soup left).soup

-- a number of levels as the tree keeps it
abbrev pub Counted : ℕ → Result ℕ ParseStop → Type 0
Counted levels (Ok n) = n ≡ levels
Counted levels (Err e) = e ≡ Memory

-- ---- declarations and enumerations

-- a comma and the message of `static_assert`, if they are there
abbrev pub message : Reader Lexeme (Option (List (List ℕ)))
message = maybe_if (is k.Comma) (is k.Comma ⊳ r.pieces)

-- a comma and an enumerator
abbrev pub other_enumr : ℕ → Reader Lexeme Enumerator
other_enumr left = is k.Comma ⊳ r.enumr left

-- enumerators, perhaps none
abbrev pub maybe_enumrs : ℕ → Reader Lexeme (Option (List Enumerator))
maybe_enumrs left = maybe_if (of class_at is_id) (r.enumrs left)

-- ---- variables and parameters

-- a name that may be left out
abbrev pub maybe_id : Reader Lexeme (Option Ident)
maybe_id = maybe_if (of class_at is_id) id

-- at which token such a list is refused, where none of a made type was found
abbrev pub no_args_by : Option ℕ → List Lexeme → Option ℕ
no_args_by (Some left) ts = Some left
no_args_by None ts = if sees (of class_at starts_assign) ts then None else Some (length ts)

-- how many tokens are left at the first of a list of arguments that is refused: one of a type that something is made of, or one that begins no argument
abbrev pub no_args_at : List Lexeme → Option ℕ
no_args_at ts = no_args_by (type_made_at ts) ts

-- the same behind `(`
abbrev pub refused_at : List Lexeme → Option ℕ
refused_at ts = if sees (is k.OpenParen) ts then no_args_at (tail_of ts) else None
