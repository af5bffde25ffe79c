-- What a lexer knows of the bytes that it was fed.
use Rattle.std.specs.Prelude.{◌≡◌, ℕ, ◌+◌, ◌≤◌, Bool, true, false, List, Option, Some, None, Result, Ok, Err, length, drop}
use Rattle.cx_token_defs.specs.declared.Token.{Token}
use Rattle.cx_tokens.specs.declared.LexAnswer.{LexAnswer}
use Rattle.cx_tokens.specs.declared.LexAnswer.TheVariants as answer
use Rattle.cx_tokens.specs.declared.step.Here.{Here}
use Rattle.cx_tokens.specs.Marks.{Counts}
use Rattle.cx_tokens.specs.Reached.{Settled, Stands}

-- The tokens up to a place of the text, the bytes behind that place, and how many bytes there are in all; or the answer that every text has which goes on like that.
pub record Fed : Type 0 where
  pub tokens : List Token
  pub here : Here
  pub front : List ℕ
  pub count : ℕ
  pub ended : Option LexAnswer

-- the tokens of the text up to a place, and what stands behind it
pub record Behind (bytes : List ℕ) (tokens : List Token) (here : Here) (front : List ℕ) : Type 0 where
  pub rest : drop here.at bytes ≡ front
  pub stands : Stands bytes here tokens

-- what it knows of these bytes
abbrev pub Knows : Option LexAnswer → List ℕ → List Token → Here → List ℕ → Type 0
Knows None bytes tokens here front = Behind bytes tokens here front
Knows (Some answer) bytes tokens here front = Settled bytes answer

-- it was fed these bytes
abbrev pub Holds : Fed → List ℕ → Type 0
Holds s bytes = Knows s.ended bytes s.tokens s.here s.front

-- memory ran out
abbrev pub ran_out : Option LexAnswer → Bool
ran_out None = false
ran_out (Some (answer.Fault d)) = false
ran_out (Some answer.Memory) = true

-- the bytes up to a place and behind it are no more than all that were fed, of which there are no more than the longest text has and one
pub record Counted (here : Here) (front : List ℕ) (count : ℕ) : Type 0 where
  pub within : here.at + length front ≤ count
  pub short : count ≤ 4194305
  pub mark : Counts here.mark here.at

-- further on in the text, or the answer that it has
abbrev pub Goes : List ℕ → List Token → List ℕ → Result Here LexAnswer → Type 0
Goes bytes tokens front (Ok next) = Behind bytes tokens next front
Goes bytes tokens front (Err answer) = Settled bytes answer
