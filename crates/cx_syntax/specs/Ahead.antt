-- What the tokens ahead tell: whether a type stands there or an expression.
use Rattle.std.specs.Prelude.{Bool, true, false, not, ◌&&◌, ◌||◌, List, [], ◌∷◌, length, Option, Some, None, if◌then◌else◌}
use Rattle.cx_base.specs.declared.rule.Rule.{Rule}
use Rattle.cx_base.specs.declared.rule.Rule.TheVariants.{Syntax, Nesting}
use Rattle.cx_syntax.specs.declared.class.Class.{Class}
use Rattle.cx_syntax.specs.declared.class.Class.TheVariants as k
use Rattle.cx_syntax.specs.declared.lexeme.Lexeme.{Lexeme}
use Rattle.cx_grammar.specs.Exact.{Outcome, stop}
use Rattle.cx_grammar.specs.Reading.{sees}
use Rattle.cx_grammar.specs.Reads.{tail_of}
use Rattle.cx_grammar.specs.Sets.{of}
use Rattle.cx_syntax.specs.Classes.{class_at, is}
use Rattle.cx_syntax.specs.Sets.{is_type, is_name, is_word, begins_type, starts_given, starts_assign, follows_name, is_operator_word}

-- What is left behind names with `::` behind each and a TYPE, if they stand there.
abbrev pub names_end : List Lexeme → Option (List Lexeme)
names_end [] = None
names_end (t ∷ []) = if is_type t.class then Some [] else None
names_end (t ∷ u ∷ ts) = if is_name t.class && is k.ColonColon u then names_end ts else (if is_type t.class then Some (u ∷ ts) else None)

-- what is left behind a qtype
abbrev pub qtype_end : List Lexeme → Option (List Lexeme)
qtype_end ts = if sees (is k.ColonColon) ts then names_end (tail_of ts) else names_end ts

abbrev pub found : Option (List Lexeme) → Bool
found None = false
found (Some rest) = true

abbrev pub ends_bare : Option (List Lexeme) → Bool
ends_bare None = false
ends_bare (Some rest) = not (sees (of class_at starts_given) rest)

-- A qtype stands there.
abbrev pub qtype_ahead : List Lexeme → Bool
qtype_ahead ts = found (qtype_end ts)

-- A type stands there and no expression: what only a type begins with, or a word or a qtype behind which neither `(` nor `{` stands.
abbrev pub type_ahead : List Lexeme → Bool
type_ahead ts = sees (of class_at begins_type) ts
    || (if sees (of class_at is_word) ts then not (sees (of class_at starts_given) (tail_of ts)) else ends_bare (qtype_end ts))

-- ---- an expression where only a type may stand, since the levels end: the fault is behind what both begin with

-- A fault of nesting where an expression goes on with the token, else of syntax.
abbrev pub fault_by : (Class → Bool) → List Lexeme → Rule
fault_by goes ts = if sees (of class_at goes) ts then Nesting else Syntax

abbrev pub fault_at : {A : Type 0} → (Class → Bool) → List Lexeme → Outcome Lexeme A
fault_at goes ts = stop (fault_by goes ts) (length ts)

-- behind a name, or where a name may stand; an expression goes on with `goes`
abbrev pub name_fault : {A : Type 0} → Bool → (Class → Bool) → List Lexeme → Outcome Lexeme A
name_fault behind goes [] = fault_at goes []
name_fault true goes (t ∷ ts) = if is k.ColonColon t then name_fault false is_operator_word ts else fault_at goes (t ∷ ts)
name_fault false goes (t ∷ ts) = if is_name t.class then name_fault true (if is_type t.class then starts_given else follows_name) ts else fault_at goes (t ∷ ts)

-- from the first token in the parentheses on
abbrev pub type_fault : {A : Type 0} → List Lexeme → Outcome Lexeme A
type_fault ts =
    if sees (of class_at is_word) ts then fault_at starts_given (tail_of ts)
    else (if sees (is k.ColonColon) ts then name_fault false is_operator_word (tail_of ts) else name_fault false starts_assign ts)
