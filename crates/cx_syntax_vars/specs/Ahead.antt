-- What the tokens ahead tell: whether a type follows modifiers, and whether a list of arguments begins with a type that is made.
use Rattle.std.specs.Prelude.{ℕ, Bool, true, false, not, ◌&&◌, ◌||◌, List, [], ◌∷◌, length, Option, Some, None, if◌then◌else◌}
use Rattle.cx_syntax.specs.declared.class.Class.TheVariants as k
use Rattle.cx_syntax.specs.declared.lexeme.Lexeme.{Lexeme}
use Rattle.cx_grammar.specs.Reading.{sees, sees_two}
use Rattle.cx_grammar.specs.Sets.{of}
use Rattle.cx_syntax.specs.Classes.{class_at, is}
use Rattle.cx_syntax.specs.Ahead.{qtype_end}
use Rattle.cx_syntax.specs.Sets.{is_type, is_name, is_word, starts_typed}
use Rattle.cx_syntax_vars.specs.Sets.{leads_type}

-- Behind modifiers a type comes next, and no name that is declared: what only a type begins with, or a name with `::` behind it.
abbrev pub type_next : List Lexeme → Bool
type_next ts = sees (of class_at leads_type) ts || sees_two (of class_at is_name) (is k.ColonColon) ts

-- The same in a typedef: what a type begins with, but for a TYPE with `;` behind it, which is the name that is declared.
abbrev pub aliased_next : List Lexeme → Bool
aliased_next ts = sees (of class_at starts_typed) ts && not (sees_two (of class_at is_type) (is k.Semicolon) ts)

-- tokens follow, so many of them
abbrev pub left_of : Option (List Lexeme) → Option ℕ
left_of None = None
left_of (Some []) = None
left_of (Some (t ∷ ts)) = Some (length (t ∷ ts))

-- The token at which a list begins with a word, or behind a type's name at its start, has so many tokens from it on.
abbrev pub type_made_at : List Lexeme → Option ℕ
type_made_at ts = if sees (of class_at is_word) ts then Some (length ts) else left_of (qtype_end ts)

abbrev pub is_some : Option ℕ → Bool
is_some None = false
is_some (Some n) = true

-- Tokens begin with a word, or with a type's name and a token more.
abbrev pub begins_made : List Lexeme → Bool
begins_made ts = is_some (type_made_at ts)
