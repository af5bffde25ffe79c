-- A text as the grammar sees it. Spaces part its tokens; a name is one of a type where it begins with an upper-case letter.
use Rattle.std.proofs.Common.{ℕ, Bool, true, false, ◌||◌, List, [], ◌∷◌, ◌++◌, map, if◌then◌else◌, pos, nat_eq, nat_le, length}
use Prim.Native.String.{String}
use Rattle.std.specs.Prelude.{codes, ◌-◌}
use Rattle.cx_base.specs.declared.diag.Mark.{Mark}
use Rattle.cx_base.specs.declared.diag.Span.{Span}
use Rattle.cx_base.specs.declared.rule.Rule.{Rule}
use Rattle.cx_base.specs.declared.int_type.IntType.TheVariants as ty
use Rattle.cx_token_defs.specs.declared.Token.{Token}
use Rattle.cx_token_defs.specs.declared.TokenKind.{TokenKind}
use Rattle.cx_token_defs.specs.declared.TokenKind.TheVariants as kind
use Rattle.cx_grammar.specs.Exact.{Outcome, done, stop}
use Rattle.cx_syntax.specs.declared.class.Class.{Class}
use Rattle.cx_syntax.specs.declared.class.Class.TheVariants as k
use Rattle.cx_syntax.specs.declared.lexeme.Lexeme.{Lexeme}
use Rattle.cx_syntax.specs.Classes.{lexeme_of, word_class}

-- ---- words, parted by spaces

abbrev pub put : ℕ → List (List ℕ) → List (List ℕ)
put c [] = (c ∷ []) ∷ []
put c (w ∷ ws) = (c ∷ w) ∷ ws

abbrev pub words : List ℕ → List (List ℕ)
words [] = []
words (c ∷ []) = (c ∷ []) ∷ []
words (c ∷ d ∷ cs) = if nat_eq c 32 then words (d ∷ cs) else (if nat_eq d 32 then (c ∷ []) ∷ words cs else put c (words (d ∷ cs)))

abbrev pub between : ℕ → ℕ → ℕ → Bool
between low high c = if nat_le low c then nat_le c high else false

abbrev pub first : List ℕ → ℕ
first [] = 0
first (c ∷ cs) = c

abbrev pub is_upper : List ℕ → Bool
is_upper w = between 65 90 (first w)

abbrev pub is_known : Class → Bool
is_known k.Unknown = false
is_known _ = true

-- ---- tokens

abbrev pub inner : List ℕ → List ℕ
inner [] = []
inner (c ∷ []) = []
inner (c ∷ d ∷ cs) = c ∷ inner (d ∷ cs)

abbrev pub behind : List ℕ → List ℕ
behind [] = []
behind (c ∷ cs) = cs

abbrev pub nowhere : Mark
nowhere = record { byte = 0; line = 0; col = 0 }

abbrev pub no_span : Span
no_span = record { start = nowhere; end = nowhere }

abbrev pub name_kind : List ℕ → TokenKind
name_kind w = if is_known (word_class w) then kind.Word else kind.Ident

-- a digit's value is its number's
abbrev pub kind_of : List ℕ → TokenKind
kind_of w =
    if between 48 57 (first w) then kind.Number (record { ty = ty.Int; value = pos (first w - 48) })
    else (if nat_eq (first w) 34 then kind.Str
    else (if between 65 90 (first w) || between 97 122 (first w) then name_kind w
    else kind.Punct))

abbrev pub text_of : TokenKind → List ℕ → List ℕ
text_of kind.Str w = inner (behind w)
text_of _ w = w

abbrev pub token_of : List ℕ → Token
token_of w = record { kind = kind_of w; span = no_span; text = text_of (kind_of w) w }

abbrev pub end : Token
end = record { kind = kind.End; span = no_span; text = [] }

abbrev pub lexemes : List (List ℕ) → List Lexeme
lexemes ws = map (lexeme_of is_upper) (map token_of ws ++ end ∷ [])

abbrev pub texts : String → List (List ℕ)
texts t = words (codes t)

abbrev pub text : String → List Lexeme
text t = lexemes (texts t)

-- a text between two others
abbrev pub within : String → String → String → List Lexeme
within before t after = lexemes (texts before ++ texts t ++ texts after)

-- ---- what a reader answers

-- a tree, a tree and more tokens behind it, or a fault; so many tokens are left, with the one that ends the text
pub data Answer (A : Type 0) : Type 0 where
  tree : A → Answer A
  part : A → ℕ → Answer A
  fault : Rule → ℕ → Answer A

abbrev pub answer : {A : Type 0} → Outcome Lexeme A → Answer A
answer (done v []) = tree v
answer (done v (t ∷ [])) = tree v
answer (done v (t ∷ u ∷ rest)) = part v (length (t ∷ u ∷ rest))
answer (stop rule left) = fault rule left
