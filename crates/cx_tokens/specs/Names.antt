-- Identifiers, the words of the language, and the spellings of operators by words ([lex.name], [lex.key], [lex.digraph]).
use Rattle.std.specs.Prelude.{ℕ, Bool, false, ◌+◌, ◌==◌, ◌||◌, ◌&&◌, nat_lt, List, [], ◌∷◌, if◌then◌else◌, codes, take, drop}
use Rattle.std.specs.List.{list_any}
use Rattle.std.specs.Str.{bytes_eq}
use Rattle.cx_base.specs.declared.rule.Rule.TheVariants as rule
use Rattle.cx_token_defs.specs.declared.TokenKind.{TokenKind}
use Rattle.cx_token_defs.specs.declared.TokenKind.TheVariants as kind
use Rattle.cx_tokens.specs.Bytes.{byte_at, is_name_byte, run_of}
use Rattle.cx_tokens.specs.Pieces.{Found, token, broken}

abbrev pub is_among : List (List ℕ) → List ℕ → Bool
is_among words text = list_any (bytes_eq text) words

unfoldable pub words : List (List ℕ)
words = codes "alignof" ∷ codes "auto" ∷ codes "bool" ∷ codes "break" ∷ codes "case" ∷ codes "char" ∷ codes "class" ∷ codes "const"
    ∷ codes "consteval" ∷ codes "constexpr" ∷ codes "constinit" ∷ codes "const_cast" ∷ codes "continue" ∷ codes "default" ∷ codes "delete"
    ∷ codes "do" ∷ codes "else" ∷ codes "enum" ∷ codes "explicit" ∷ codes "extern" ∷ codes "false" ∷ codes "for" ∷ codes "if" ∷ codes "inline"
    ∷ codes "int" ∷ codes "long" ∷ codes "namespace" ∷ codes "new" ∷ codes "noexcept" ∷ codes "nullptr" ∷ codes "operator" ∷ codes "private"
    ∷ codes "protected" ∷ codes "public" ∷ codes "reinterpret_cast" ∷ codes "return" ∷ codes "short" ∷ codes "signed" ∷ codes "sizeof"
    ∷ codes "static" ∷ codes "static_assert" ∷ codes "static_cast" ∷ codes "struct" ∷ codes "switch" ∷ codes "this" ∷ codes "throw"
    ∷ codes "true" ∷ codes "typedef" ∷ codes "union" ∷ codes "unsigned" ∷ codes "using" ∷ codes "virtual" ∷ codes "void" ∷ codes "while" ∷ []

-- words of the standard that the language leaves out
unfoldable pub words_left_out : List (List ℕ)
words_left_out = codes "alignas" ∷ codes "asm" ∷ codes "catch" ∷ codes "char8_t" ∷ codes "char16_t" ∷ codes "char32_t" ∷ codes "concept"
    ∷ codes "co_await" ∷ codes "co_return" ∷ codes "co_yield" ∷ codes "decltype" ∷ codes "double" ∷ codes "dynamic_cast" ∷ codes "export"
    ∷ codes "float" ∷ codes "friend" ∷ codes "goto" ∷ codes "mutable" ∷ codes "register" ∷ codes "requires" ∷ codes "template"
    ∷ codes "thread_local" ∷ codes "try" ∷ codes "typeid" ∷ codes "typename" ∷ codes "volatile" ∷ codes "wchar_t" ∷ []

-- an operator by a word, and the operator
unfoldable pub alternatives : List (List ℕ × List ℕ)
alternatives = (codes "and", codes "&&") ∷ (codes "or", codes "||") ∷ (codes "not", codes "!") ∷ (codes "bitand", codes "&") ∷ (codes "bitor", codes "|")
    ∷ (codes "xor", codes "^") ∷ (codes "compl", codes "~") ∷ (codes "and_eq", codes "&=") ∷ (codes "or_eq", codes "|=")
    ∷ (codes "xor_eq", codes "^=") ∷ (codes "not_eq", codes "!=") ∷ []

-- the operator that a word spells, or the text itself
abbrev pub operator_in : List (List ℕ × List ℕ) → List ℕ → List ℕ
operator_in [] text = text
operator_in (pair ∷ pairs) text = if bytes_eq text pair.0 then pair.1 else operator_in pairs text

abbrev pub spells_in : List (List ℕ × List ℕ) → List ℕ → Bool
spells_in [] text = false
spells_in (pair ∷ pairs) text = bytes_eq text pair.0 || spells_in pairs text

-- what stands before a literal of another encoding ([lex.ccon], [lex.string])
unfoldable pub encoding_prefixes : List (List ℕ)
encoding_prefixes = codes "u8" ∷ codes "u" ∷ codes "U" ∷ codes "L" ∷ codes "R" ∷ codes "u8R" ∷ codes "uR" ∷ codes "UR" ∷ codes "LR" ∷ []

abbrev pub is_quote : ℕ → Bool
is_quote b = b == 39 || b == 34

-- an identifier's longest spelling
abbrev pub longest_name : ℕ
longest_name = 1024

abbrev pub name_size : List ℕ → ℕ
name_size rest = 1 + run_of is_name_byte (drop 1 rest)

abbrev pub name_kind : List ℕ → TokenKind
name_kind text = if spells_in alternatives text then kind.Punct else (if is_among words text then kind.Word else kind.Ident)

-- the name is left out, or it stands before a quote and is an encoding's prefix
abbrev pub is_left_out_name : List ℕ → ℕ → Bool
is_left_out_name text behind = is_among words_left_out text || (is_quote behind && is_among encoding_prefixes text)

-- an identifier of such a size, before such a byte
unfoldable pub name_with : ℕ → List ℕ → ℕ → Found
name_with size text behind =
    if nat_lt longest_name size then broken size rule.LongName
    else (if is_left_out_name text behind then broken size rule.LeftOut else token size (name_kind text))

-- a letter or `_`, then letters, digits and `_`
unfoldable pub name : List ℕ → Found
name rest = name_with (name_size rest) (take (name_size rest) rest) (byte_at rest (name_size rest))
