-- The lexical faults of a text, and the first of them.
use Rattle.std.specs.Prelude.{ℕ, ◌+◌, nat_lt, List, [], ◌∷◌, ◌++◌, Option, Some, None, if◌then◌else◌, fold, map, take}
use Rattle.cx_base.specs.declared.diag.Diag.{Diag}
use Rattle.cx_tokens.specs.declared.shapes.Flaw.{Flaw}
use Rattle.cx_tokens.specs.Marks.{mark_of}
use Rattle.cx_tokens.specs.Pieces.{flaws_of}
use Rattle.cx_tokens.specs.Cut.{Piece}

-- a flaw of the piece of these bytes, behind the bytes before
abbrev pub fault_at : List ℕ → List ℕ → Flaw → Diag
fault_at before bytes f = record {
  span = record { start = mark_of (before ++ take f.start bytes); end = mark_of (before ++ take (f.start + f.size) bytes) };
  rule = f.rule;
  frames = [];
}

-- the faults of the pieces in order
abbrev pub faults_from : List ℕ → List Piece → List Diag
faults_from before [] = []
faults_from before (piece ∷ pieces) =
    map (fault_at before piece.bytes) (flaws_of piece.found) ++ faults_from (before ++ piece.bytes) pieces

-- the one of the two that starts first, or the left one
abbrev pub earlier : Diag → Diag → Diag
earlier d e = if nat_lt e.span.start.byte d.span.start.byte then e else d

-- the fault with the least start, and of several that start there the one that was listed first
abbrev pub first_of : List Diag → Option Diag
first_of [] = None
first_of (d ∷ ds) = Some (fold earlier d ds)
