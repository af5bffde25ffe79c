-- What tokens are for the grammar, worked out by hand ([lex.token]).
use Prim.Native.String.{String}
use Rattle.std.proofs.Common.{◌≡◌, ℕ, Bool, true, false, List, [], ◌∷◌, map, refl, pos}
use Rattle.std.specs.Prelude.{codes}
use Rattle.cx_base.specs.declared.diag.Mark.{Mark}
use Rattle.cx_base.specs.declared.diag.Span.{Span}
use Rattle.cx_base.specs.declared.int_type.IntType.TheVariants as ty
use Rattle.cx_token_defs.specs.declared.Token.{Token}
use Rattle.cx_token_defs.specs.declared.TokenKind.{TokenKind}
use Rattle.cx_token_defs.specs.declared.TokenKind.TheVariants as kind
use Rattle.cx_syntax.specs.declared.class.Class.{Class}
use Rattle.cx_syntax.specs.declared.class.Class.TheVariants as k
use Rattle.cx_syntax.specs.declared.lexeme.Lexeme.{Lexeme}
use Rattle.cx_syntax.specs.Classes.{words_a_to_c, words_d_to_i, words_l_to_r, words_in_s, words_t_to_w, brackets_and_marks, single_operators, arrows_and_assignments, comparisons_and_shifts, name_class, number_class, same_class, class_of, lexemes_of}
use Rattle.cx_syntax.specs.Values.{span_of, no_mark}

abbrev mark : ℕ → Mark
mark n = record { byte = n; line = 1; col = n }

abbrev between : ℕ → ℕ → Span
between first behind = record { start = mark first; end = mark behind }

abbrev token : TokenKind → String → Token
token of_kind text = record { kind = of_kind; span = between 1 2; text = codes text }

abbrev number : TokenKind
number = kind.Number (record { ty = ty.Int; value = pos 0 })

-- ---- classes

-- a token's kind and text, and its class where no name is one of a type
abbrev classes : List (TokenKind × String × Class)
classes =
    (kind.Word, "alignof", k.Alignof) ∷
    (kind.Word, "continue", k.Continue) ∷
    (kind.Word, "consteval", k.Consteval) ∷
    (kind.Word, "constexpr", k.Constexpr) ∷
    (kind.Word, "int", k.Int) ∷
    (kind.Word, "return", k.Return) ∷
    (kind.Word, "sizeof", k.Sizeof) ∷
    (kind.Word, "while", k.While) ∷
    (kind.Word, "whil", k.Unknown) ∷
    (kind.Ident, "x", k.Ident) ∷
    (kind.Ident, "final", k.FinalIdent) ∷
    (kind.Ident, "override", k.OverrideIdent) ∷
    (number, "0", k.Zero) ∷
    (number, "00", k.Number) ∷
    (kind.Char (pos 97), "'a'", k.CharLiteral) ∷
    (kind.Str, "while", k.StrLiteral) ∷
    (kind.Punct, "{", k.OpenBrace) ∷
    (kind.Punct, "&", k.Amp) ∷
    (kind.Punct, "<", k.Less) ∷
    (kind.Punct, ">", k.Greater) ∷
    (kind.Punct, "<<=", k.ShiftLeftEqual) ∷
    (kind.Punct, "::", k.ColonColon) ∷
    (kind.Punct, "--", k.MinusMinus) ∷
    (kind.Punct, "...", k.Unknown) ∷
    (kind.End, "", k.End) ∷ []

classes_hold : map (λ row. class_of (λ text. false) (token row.0 row.1)) classes ≡ map (λ row. row.2) classes
unfolding words_a_to_c words_d_to_i words_l_to_r words_in_s words_t_to_w brackets_and_marks single_operators arrows_and_assignments comparisons_and_shifts name_class number_class
classes_hold = refl

-- and the class of a name where each is one of a type
abbrev names_of_types : List (String × Class)
names_of_types = ("x", k.TypeName) ∷ ("final", k.FinalType) ∷ ("override", k.OverrideType) ∷ []

names_of_types_hold : map (λ row. class_of (λ text. true) (token kind.Ident row.0)) names_of_types ≡ map (λ row. row.1) names_of_types
unfolding name_class
names_of_types_hold = refl

-- two classes, and whether they are one
abbrev pairs : List (Class × Class × Bool)
pairs = (k.Less, k.Less, true) ∷ (k.Less, k.Greater, false) ∷ (k.End, k.Unknown, false) ∷ (k.End, k.End, true) ∷ []

pairs_hold : map (λ row. same_class row.0 row.1) pairs ≡ map (λ row. row.2) pairs
unfolding same_class
pairs_hold = refl

-- ---- texts and places

-- a token's kind and text, and the text that the grammar sees: that of a name or a string
abbrev texts : List (TokenKind × String × String)
texts = (kind.Ident, "name", "name") ∷ (kind.Ident, "final", "final") ∷ (kind.Str, "bytes", "bytes") ∷ (kind.Word, "while", "") ∷ (number, "7", "") ∷ (kind.Punct, "+", "") ∷ []

abbrev lexemes : List Lexeme
lexemes = lexemes_of (λ text. false) (map (λ row. token row.0 row.1) texts)

texts_hold : map (λ (t : Lexeme). t.text) lexemes ≡ map (λ row. codes row.2) texts
unfolding words_a_to_c words_d_to_i words_l_to_r words_in_s words_t_to_w brackets_and_marks single_operators arrows_and_assignments comparisons_and_shifts name_class number_class
texts_hold = refl

kinds_hold : map (λ (t : Lexeme). t.kind) lexemes ≡ map (λ row. row.0) texts
kinds_hold = refl

places_hold : map (λ (t : Lexeme). t.span) lexemes ≡ map (λ row. between 1 2) texts
places_hold = refl

-- a name that stands there
abbrev at : ℕ → ℕ → Lexeme
at first behind = record { class = k.Ident; kind = kind.Ident; span = between first behind; text = codes "x" }

-- tokens, and from where to where they stand
abbrev spans : List (List Lexeme × Span)
spans =
    (at 1 2 ∷ [], between 1 2) ∷
    (at 1 2 ∷ at 3 4 ∷ at 5 9 ∷ [], between 1 9) ∷
    ([], record { start = no_mark; end = no_mark }) ∷ []

spans_hold : map (λ row. span_of row.0) spans ≡ map (λ row. row.1) spans
spans_hold = refl
