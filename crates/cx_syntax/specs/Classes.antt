-- What a token is for the grammar: a name, a literal, a word or an operator ([lex.token]).
use Rattle.std.specs.Prelude.{ℕ, Bool, true, false, List, [], ◌∷◌, Option, Some, None, codes, if◌then◌else◌, map}
use Rattle.std.specs.Option.{option_or, unwrap_or}
use Rattle.std.specs.Str.{bytes_eq}
use Rattle.cx_token_defs.specs.declared.Token.{Token}
use Rattle.cx_token_defs.specs.declared.TokenKind.{TokenKind}
use Rattle.cx_token_defs.specs.declared.TokenKind.TheVariants as kind
use Rattle.cx_syntax.specs.declared.class.Class.{Class}
use Rattle.cx_syntax.specs.declared.class.Class.TheVariants as k
use Rattle.cx_syntax.specs.declared.lexeme.Lexeme.{Lexeme}
use Rattle.cx_syntax.specs.contracts.class.Class.{the_type}
use denote.Enum.Bare.{sameb}

-- a spelling and its class
abbrev pub Row : Type 0
Row = List ℕ × Class

abbrev pub class_in : List Row → List ℕ → Option Class
class_in [] text = None
class_in (row ∷ rows) text = if bytes_eq text row.0 then Some row.1 else class_in rows text

-- the words from a to c
unfoldable pub words_a_to_c : List Row
words_a_to_c = (codes "alignof", k.Alignof) ∷ (codes "auto", k.Auto) ∷ (codes "bool", k.Bool) ∷ (codes "break", k.Break)
    ∷ (codes "case", k.Case) ∷ (codes "char", k.Char) ∷ (codes "class", k.Class) ∷ (codes "const", k.Const)
    ∷ (codes "consteval", k.Consteval) ∷ (codes "constexpr", k.Constexpr) ∷ (codes "constinit", k.Constinit) ∷ (codes "const_cast", k.ConstCast)
    ∷ (codes "continue", k.Continue) ∷ []

-- the words from d to i
unfoldable pub words_d_to_i : List Row
words_d_to_i = (codes "default", k.Default) ∷ (codes "delete", k.Delete) ∷ (codes "do", k.Do) ∷ (codes "else", k.Else)
    ∷ (codes "enum", k.Enum) ∷ (codes "explicit", k.Explicit) ∷ (codes "extern", k.Extern) ∷ (codes "false", k.False)
    ∷ (codes "for", k.For) ∷ (codes "if", k.If) ∷ (codes "inline", k.Inline) ∷ (codes "int", k.Int) ∷ []

-- the words from l to r
unfoldable pub words_l_to_r : List Row
words_l_to_r = (codes "long", k.Long) ∷ (codes "namespace", k.Namespace) ∷ (codes "new", k.New) ∷ (codes "noexcept", k.Noexcept)
    ∷ (codes "nullptr", k.Nullptr) ∷ (codes "operator", k.Operator) ∷ (codes "private", k.Private) ∷ (codes "protected", k.Protected)
    ∷ (codes "public", k.Public) ∷ (codes "reinterpret_cast", k.ReinterpretCast) ∷ (codes "return", k.Return) ∷ []

-- the words in s
unfoldable pub words_in_s : List Row
words_in_s = (codes "short", k.Short) ∷ (codes "signed", k.Signed) ∷ (codes "sizeof", k.Sizeof) ∷ (codes "static", k.Static)
    ∷ (codes "static_assert", k.StaticAssert) ∷ (codes "static_cast", k.StaticCast) ∷ (codes "struct", k.Struct) ∷ (codes "switch", k.Switch) ∷ []

-- the words from t to w
unfoldable pub words_t_to_w : List Row
words_t_to_w = (codes "this", k.This) ∷ (codes "throw", k.Throw) ∷ (codes "true", k.True) ∷ (codes "typedef", k.Typedef)
    ∷ (codes "union", k.Union) ∷ (codes "unsigned", k.Unsigned) ∷ (codes "using", k.Using) ∷ (codes "virtual", k.Virtual)
    ∷ (codes "void", k.Void) ∷ (codes "while", k.While) ∷ []

abbrev pub word_class : List ℕ → Class
word_class text = unwrap_or (option_or (class_in words_a_to_c text) (option_or (class_in words_d_to_i text) (option_or (class_in words_l_to_r text)
    (option_or (class_in words_in_s text) (class_in words_t_to_w text))))) k.Unknown

-- brackets and marks
unfoldable pub brackets_and_marks : List Row
brackets_and_marks = (codes "{", k.OpenBrace) ∷ (codes "}", k.CloseBrace) ∷ (codes "[", k.OpenBracket) ∷ (codes "]", k.CloseBracket) ∷ (codes "(", k.OpenParen) ∷ (codes ")", k.CloseParen)
    ∷ (codes ";", k.Semicolon) ∷ (codes ":", k.Colon) ∷ (codes ",", k.Comma) ∷ (codes ".", k.Dot) ∷ (codes "?", k.Question) ∷ (codes "~", k.Tilde) ∷ []

-- operators of one byte
unfoldable pub single_operators : List Row
single_operators = (codes "!", k.Not) ∷ (codes "+", k.Plus) ∷ (codes "-", k.Minus) ∷ (codes "*", k.Star) ∷ (codes "/", k.Slash) ∷ (codes "%", k.Percent)
    ∷ (codes "^", k.Caret) ∷ (codes "&", k.Amp) ∷ (codes "|", k.Pipe) ∷ (codes "=", k.Equal) ∷ (codes "<", k.Less) ∷ (codes ">", k.Greater) ∷ []

-- of two bytes and more
unfoldable pub arrows_and_assignments : List Row
arrows_and_assignments = (codes "::", k.ColonColon) ∷ (codes "->", k.Arrow) ∷ (codes "+=", k.PlusEqual) ∷ (codes "-=", k.MinusEqual) ∷ (codes "*=", k.StarEqual) ∷ (codes "/=", k.SlashEqual)
    ∷ (codes "%=", k.PercentEqual) ∷ (codes "^=", k.CaretEqual) ∷ (codes "&=", k.AmpEqual) ∷ (codes "|=", k.PipeEqual) ∷ (codes "<<=", k.ShiftLeftEqual) ∷ (codes ">>=", k.ShiftRightEqual) ∷ []

-- comparisons, `and`, `or`, shifts and steps
unfoldable pub comparisons_and_shifts : List Row
comparisons_and_shifts = (codes "==", k.EqualEqual) ∷ (codes "!=", k.NotEqual) ∷ (codes "<=", k.LessEqual) ∷ (codes ">=", k.GreaterEqual) ∷ (codes "&&", k.AmpAmp) ∷ (codes "||", k.PipePipe)
    ∷ (codes "<<", k.ShiftLeft) ∷ (codes ">>", k.ShiftRight) ∷ (codes "++", k.PlusPlus) ∷ (codes "--", k.MinusMinus) ∷ []

abbrev pub operator_class : List ℕ → Class
operator_class text = unwrap_or (option_or (class_in brackets_and_marks text) (option_or (class_in single_operators text) (option_or (class_in arrows_and_assignments text) (class_in comparisons_and_shifts text)))) k.Unknown

-- an identifier is a TYPE or an ID; `final` and `override` are told apart by their spelling
unfoldable pub name_class : Bool → List ℕ → Class
name_class is_type text =
    if bytes_eq text (codes "final") then (if is_type then k.FinalType else k.FinalIdent)
    else (if bytes_eq text (codes "override") then (if is_type then k.OverrideType else k.OverrideIdent)
    else (if is_type then k.TypeName else k.Ident))

unfoldable pub number_class : List ℕ → Class
number_class text = if bytes_eq text (codes "0") then k.Zero else k.Number

abbrev pub class_by : (List ℕ → Bool) → TokenKind → List ℕ → Class
class_by names kind.Word text = word_class text
class_by names kind.Ident text = name_class (names text) text
class_by names (kind.Number n) text = number_class text
class_by names (kind.Char c) text = k.CharLiteral
class_by names kind.Str text = k.StrLiteral
class_by names kind.Punct text = operator_class text
class_by names kind.End text = k.End

-- the class of a token, given the test of type names
abbrev pub class_of : (List ℕ → Bool) → Token → Class
class_of names t = class_by names t.kind t.text

-- names and strings have a text of their own; that of another token is told by its class or its value
abbrev pub has_text : Class → Bool
has_text k.TypeName = true
has_text k.FinalType = true
has_text k.OverrideType = true
has_text k.Ident = true
has_text k.FinalIdent = true
has_text k.OverrideIdent = true
has_text k.StrLiteral = true
has_text _ = false

abbrev pub text_kept : Class → List ℕ → List ℕ
text_kept c text = if has_text c then text else []

-- what the grammar sees of a token
abbrev pub lexeme_of : (List ℕ → Bool) → Token → Lexeme
lexeme_of names t = record { class = class_of names t; kind = t.kind; span = t.span; text = text_kept (class_of names t) t.text }

abbrev pub lexemes_of : (List ℕ → Bool) → List Token → List Lexeme
lexemes_of names ts = map (lexeme_of names) ts

-- `==` on classes
unfoldable pub same_class : Class → Class → Bool
same_class = sameb the_type

abbrev pub class_at : Lexeme → Class
class_at t = t.class

-- a token of this class
abbrev pub is : Class → Lexeme → Bool
is c t = same_class t.class c
