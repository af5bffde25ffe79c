-- What is known of a text that was read up to a place, and of one that goes on behind the bytes that are there.
use Rattle.std.specs.Prelude.{◌≡◌, ◌≤◌, ℕ, List, [], ◌∷◌, ◌++◌, length, take, drop, Result, Ok, Err}
use Rattle.cx_token_defs.specs.declared.Token.{Token}
use Rattle.cx_tokens.specs.declared.LexAnswer.{LexAnswer}
use Rattle.cx_tokens.specs.declared.step.Here.{Here}
use Rattle.cx_tokens.specs.Cut.{IsCut, Piece, opens_line, tokens_from}
use Rattle.cx_tokens.specs.Faults.{faults_from}
use Rattle.cx_tokens.specs.Marks.{mark_of}
use Rattle.cx_tokens.specs.Tokens.{Explains, Lexes}

-- all pieces, given those before, the nearest first, and those behind
abbrev pub onto : List Piece → List Piece → List Piece
onto [] pieces = pieces
onto (p ∷ before) pieces = onto before (p ∷ pieces)

-- The text has these tokens up to this place and no fault: whatever the rest is cut into completes its cut, its faults and its tokens.
pub record Reached (bytes : List ℕ) (here : Here) (tokens : List Token) : Type 0 where
  pub before : List Piece
  pub within : here.at ≤ length bytes
  pub marked : here.mark ≡ mark_of (take here.at bytes)
  pub opened : here.opens ≡ opens_line before
  pub cut : (pieces : List Piece) → IsCut before (drop here.at bytes) pieces → IsCut [] bytes (onto before pieces)
  pub sound : (pieces : List Piece) → faults_from [] (onto before pieces) ≡ faults_from (take here.at bytes) pieces
  pub told : (pieces : List Piece) → tokens_from [] (onto before pieces) ≡ tokens ++ tokens_from (take here.at bytes) pieces

-- so has every text that begins with these bytes
pub record Stands (bytes : List ℕ) (here : Here) (tokens : List Token) : Type 0 where
  pub reached : (more : List ℕ) → Reached (bytes ++ more) here tokens

-- every text that begins with these bytes has this answer
pub record Settled (bytes : List ℕ) (answer : LexAnswer) : Type 0 where
  pub explains : (more : List ℕ) → Explains (bytes ++ more) answer

-- further on in every text that begins with these bytes, or an answer that each of them has
abbrev pub Advances : List ℕ → List Token → Result Here LexAnswer → Type 0
Advances bytes tokens (Ok next) = Stands bytes next tokens
Advances bytes tokens (Err answer) = Settled bytes answer

-- the text's tokens, or its fault
abbrev pub Answers : List ℕ → Result (List Token) LexAnswer → Type 0
Answers bytes (Ok tokens) = Lexes bytes tokens
Answers bytes (Err answer) = Explains bytes answer
