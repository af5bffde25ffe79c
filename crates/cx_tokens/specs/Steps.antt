-- What the code does over a piece.
use Rattle.std.specs.Prelude.{◌≡◌, ℕ, Bool, ◌+◌, ◌<◌, ◌≤◌, not, ◌==◌, ◌||◌, ◌&&◌, List, [], ◌++◌, fold, length, take, drop, Result, Ok, Err}
use Rattle.std.specs.List.{list_any}
use Rattle.cx_base.specs.declared.diag.Diag.{Diag}
use Rattle.cx_base.specs.declared.diag.Mark.{Mark}
use Rattle.cx_token_defs.specs.declared.Token.{Token}
use Rattle.cx_tokens.specs.declared.LexAnswer.{LexAnswer}
use Rattle.cx_tokens.specs.declared.LexAnswer.TheVariants as answer
use Rattle.cx_tokens.specs.declared.shapes.Flaw.{Flaw}
use Rattle.cx_tokens.specs.declared.step.Here.{Here}
use Rattle.cx_tokens.specs.Bytes.{byte_at, is_line_feed}
use Rattle.cx_tokens.specs.Faults.{fault_at}
use Rattle.cx_tokens.specs.Marks.{Counts, mark_of, marks_on}
use Rattle.cx_tokens.specs.Pieces.{Found, white, token, faulty, flaws_of}
use Rattle.cx_tokens.specs.Shapes.{earlier_flaw}
use Rattle.cx_tokens.specs.Cut.{Piece, opens_behind, piece_at, tokens_of}

-- behind white space, as `opens_behind` has it
abbrev pub opens_after : List ℕ → Bool → Bool
opens_after piece opens = (length piece == 1 && byte_at piece 0 == 10) || (opens && not (list_any is_line_feed piece))

abbrev pub next_piece : List ℕ → Here → Piece
next_piece bytes here = piece_at here.opens (drop here.at bytes)

-- over the next piece, which has no flaw, from one place to another
pub record Passes (bytes : List ℕ) (here next : Here) (old new : List Token) : Type 0 where
  pub sound : flaws_of (next_piece bytes here).found ≡ []
  pub moved : next.at ≡ here.at + length (next_piece bytes here).bytes
  pub later : next.opens ≡ opens_behind (next_piece bytes here) here.opens
  pub marked : next.mark ≡ mark_of (take next.at bytes)
  pub told : new ≡ old ++ tokens_of (take here.at bytes) (next_piece bytes here).bytes (next_piece bytes here).found

-- the first of the piece's flaws
abbrev pub IsFirstFlaw : Found → Flaw → Type 0
IsFirstFlaw (white n) g = ⊥
IsFirstFlaw (token n k) g = ⊥
IsFirstFlaw (faulty n f fs) g = fold earlier_flaw f fs ≡ g

-- the next piece has this fault first
abbrev pub Fails : List ℕ → Here → Diag → Type 0
Fails bytes here d = (g : Flaw) × IsFirstFlaw (next_piece bytes here).found g × (d ≡ fault_at (take here.at bytes) (next_piece bytes here).bytes g)

-- a flaw's fault, given the mark before the rest of the text in which it stands
abbrev pub fault_on : Mark → List ℕ → Flaw → Diag
fault_on mark rest f = record {
  span = record { start = marks_on mark (take f.start rest); end = marks_on mark (take (f.start + f.size) rest) };
  rule = f.rule;
  frames = [];
}

-- a place behind another, over at most so many bytes
pub record Lies (here next : Here) (n : ℕ) : Type 0 where
  pub from : here.at ≤ next.at
  pub within : next.at ≤ here.at + n
  pub counted : Counts next.mark next.at

-- a place behind another, over some of so many bytes
pub record GoesOn (here next : Here) (n : ℕ) : Type 0 where
  pub on : here.at < next.at
  pub within : next.at ≤ here.at + n
  pub counted : Counts next.mark next.at

abbrev pub Steps : List ℕ → Here → List Token → List Token → Result Here LexAnswer → Type 0
Steps bytes here old new (Ok next) = Passes bytes here next old new
Steps bytes here old new (Err (answer.Fault d)) = Fails bytes here d
Steps bytes here old new (Err answer.Memory) = Unit {0}
