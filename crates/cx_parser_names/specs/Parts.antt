-- What the functions read by the way.
use Rattle.std.specs.Prelude.{ℕ, Bool, List, ◌++◌, Option, Some, None, if◌then◌else◌}
use Rattle.cx_tree.specs.declared.names.Ident.{Ident}
use Rattle.cx_tree.specs.declared.specifiers.Modifier.{Modifier}
use Rattle.cx_tree.specs.declared.specifiers.SpecsType.{SpecsType}
use Rattle.cx_syntax.specs.declared.class.Class.{Class}
use Rattle.cx_syntax.specs.declared.class.Class.TheVariants as k
use Rattle.cx_syntax.specs.declared.lexeme.Lexeme.{Lexeme}
use Rattle.cx_grammar.specs.Sets.{of}
use Rattle.cx_grammar.specs.Reading.{Reader, token, the, maybe_if, many_when, many_of, made, sees_two, such_of}
use Rattle.cx_syntax.specs.Classes.{class_at, is}
use Rattle.cx_syntax.specs.Sets.{is_name, is_string, starts_typed}
use Rattle.cx_syntax.specs.Values.{pick, ident_of, text_of, is_specified}
use Rattle.cx_syntax.specs.Readers as r

-- a name of a set
abbrev pub ident_in : (Lexeme → Bool) → Reader Lexeme Ident
ident_in p = token (λ t. if p t then Some (ident_of t) else None)

-- a token that may be left out
abbrev pub maybe_one : Class → Reader Lexeme (Option (Unit {0}))
maybe_one c = maybe_if (is c) (the (is c))

-- names with `::` behind each
abbrev pub scopes : Reader Lexeme (List Ident)
scopes = many_when (sees_two (of class_at is_name) (is k.ColonColon)) r.scope

-- a string's text
abbrev pub piece : Reader Lexeme (List ℕ)
piece = token (pick is_string text_of)

-- the type among specifiers, if it is there
abbrev pub maybe_typed : Reader Lexeme (Option SpecsType)
maybe_typed = maybe_if (of class_at starts_typed) r.typed

-- specifiers, at least one
abbrev pub specs_parts : Reader Lexeme (List Modifier × Option SpecsType)
specs_parts = such_of is_specified r.specs_parts

-- a part as often as the next token passes the test, behind the first ones
abbrev pub more_behind : {A : Type 0} → (Lexeme → Bool) → Reader Lexeme A → List A → Reader Lexeme (List A)
more_behind p read first ts = made (λ vs. first ++ vs) (many_of p read ts)
