-- Operators and punctuators by longest match ([lex.operators], [lex.pptoken], [lex.digraph]).
use Rattle.std.specs.Prelude.{ℕ, Bool, not, ◌==◌, ◌||◌, ◌&&◌, List, [], ◌∷◌, if◌then◌else◌, codes, take}
use Rattle.std.specs.List.{list_any}
use Rattle.cx_base.specs.declared.rule.Rule.TheVariants as rule
use Rattle.cx_token_defs.specs.declared.TokenKind.TheVariants as kind
use Rattle.cx_tokens.specs.Bytes.{byte_at}
use Rattle.cx_tokens.specs.Names.{is_among}
use Rattle.cx_tokens.specs.Pieces.{Found, token, broken}

unfoldable pub singles : List ℕ
singles = codes "{}[]();:,.?~!+-*/%^&|=<>"

unfoldable pub doubles : List (List ℕ)
doubles = codes "::" ∷ codes "->" ∷ codes "+=" ∷ codes "-=" ∷ codes "*=" ∷ codes "/=" ∷ codes "%=" ∷ codes "^=" ∷ codes "&=" ∷ codes "|="
    ∷ codes "==" ∷ codes "!=" ∷ codes "<=" ∷ codes ">=" ∷ codes "&&" ∷ codes "||" ∷ codes "<<" ∷ codes ">>" ∷ codes "++" ∷ codes "--" ∷ []

unfoldable pub triples : List (List ℕ)
triples = codes "<<=" ∷ codes ">>=" ∷ []

unfoldable pub doubles_left_out : List (List ℕ)
doubles_left_out = codes ".*" ∷ codes "<:" ∷ codes ":>" ∷ codes "<%" ∷ codes "%>" ∷ codes "%:" ∷ []

unfoldable pub triples_left_out : List (List ℕ)
triples_left_out = codes "..." ∷ codes "->*" ∷ codes "<=>" ∷ []

-- `<` before `::`, which isn't followed by `:` or `>`
abbrev pub is_lone_less : List ℕ → Bool
is_lone_less rest = byte_at rest 0 == 60 && (byte_at rest 1 == 58 && (byte_at rest 2 == 58 && not (byte_at rest 3 == 58 || byte_at rest 3 == 62)))

-- the longest of the spellings with which the rest begins, or the byte begins no token
unfoldable pub punctuator : List ℕ → Found
punctuator rest =
    if is_lone_less rest then token 1 kind.Punct
    else (if is_among triples (take 3 rest) then token 3 kind.Punct
    else (if is_among triples_left_out (take 3 rest) then broken 3 rule.LeftOut
    else (if is_among doubles (take 2 rest) then token 2 kind.Punct
    else (if is_among doubles_left_out (take 2 rest) then broken 2 rule.LeftOut
    else (if list_any (λ b. b == byte_at rest 0) singles then token 1 kind.Punct
    else broken 1 rule.BadByte)))))
