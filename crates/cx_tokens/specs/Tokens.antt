-- The tokens of a source, or its first lexical fault ([lex]). A text has tokens or a fault, never both, and one of either.
use Rattle.std.specs.Prelude.{◌≡◌, ◌≢◌, ℕ, List, [], ◌∷◌, ◌++◌, Some, All}
use Rattle.cx_base.specs.declared.diag.Diag.{Diag}
use Rattle.cx_base.specs.declared.diag.Mark.{Mark}
use Rattle.cx_ints.specs.Ranges.{Fits}
use Rattle.cx_token_defs.specs.declared.Token.{Token}
use Rattle.cx_token_defs.specs.declared.TokenKind.{TokenKind}
use Rattle.cx_token_defs.specs.declared.TokenKind.TheVariants as kind
use Rattle.cx_tokens.specs.declared.LexAnswer.{LexAnswer}
use Rattle.cx_tokens.specs.declared.LexAnswer.TheVariants as answer
use Rattle.cx_tokens.specs.Cut.{IsCut, Piece, end_token, tokens_from}
use Rattle.cx_tokens.specs.Faults.{faults_from, first_of}

-- the bytes have these tokens
abbrev pub Lexes : List ℕ → List Token → Type 0
Lexes bytes tokens = (pieces : List Piece) × IsCut [] bytes pieces × (faults_from [] pieces ≡ []) × (tokens ≡ tokens_from [] pieces)

-- the bytes have this fault first
abbrev pub LexFault : List ℕ → Diag → Type 0
LexFault bytes d = (pieces : List Piece) × IsCut [] bytes pieces × (first_of (faults_from [] pieces) ≡ Some d)

-- what an answer that isn't tokens says; memory may run out at any time
abbrev pub Explains : List ℕ → LexAnswer → Type 0
Explains bytes (answer.Fault d) = LexFault bytes d
Explains bytes answer.Memory = Unit {0}

-- a number has a value of its type
abbrev pub HoldsItsValue : TokenKind → Type 0
HoldsItsValue (kind.Number n) = Fits n.ty n.value
HoldsItsValue _ = Unit {0}

-- `End` stands behind the others, and nowhere else
abbrev pub EndsOnce : List Token → Type 0
EndsOnce tokens = (others : List Token) × (m : Mark) × All (λ t. t.kind ≢ kind.End) others × (tokens ≡ others ++ end_token m ∷ [])
