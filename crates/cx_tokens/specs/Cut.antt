-- How a text is cut into white space and tokens ([lex.phases], [lex.pptoken]).
use Rattle.std.specs.Prelude.{◌≡◌, ◌≢◌, ℕ, Bool, true, false, not, ◌==◌, ◌||◌, ◌&&◌, List, [], ◌∷◌, ◌++◌, if◌then◌else◌, length, take, drop}
use Rattle.std.specs.List.{list_any}
use Rattle.cx_base.specs.declared.diag.Mark.{Mark}
use Rattle.cx_base.specs.declared.rule.Rule.TheVariants as rule
use Rattle.cx_token_defs.specs.declared.Token.{Token}
use Rattle.cx_token_defs.specs.declared.TokenKind.{TokenKind}
use Rattle.cx_token_defs.specs.declared.TokenKind.TheVariants as kind
use Rattle.cx_tokens.specs.Bytes.{byte_at, begins_name, is_blank, is_line_feed, is_splice}
use Rattle.cx_tokens.specs.Literals.{quoted, string_bytes}
use Rattle.cx_tokens.specs.Marks.{mark_of}
use Rattle.cx_tokens.specs.Names.{alternatives, is_quote, name, operator_in}
use Rattle.cx_tokens.specs.Numbers.{begins_number, number}
use Rattle.cx_tokens.specs.Pieces.{Found, white, token, faulty, broken, size_of}
use Rattle.cx_tokens.specs.Punctuators.{punctuator}
use Rattle.cx_tokens.specs.Space.{begins_block_comment, begins_line_comment, block_comment, hash, line_comment}

-- What begins with the rest of a text: the longest of its kind. A `#` may be a marker's where only white space stands before it in its line.
unfoldable pub found_at : Bool → List ℕ → Found
found_at opens rest =
    if is_blank (byte_at rest 0) then white 1
    else (if begins_name (byte_at rest 0) then name rest
    else (if begins_number rest then number rest
    else (if is_quote (byte_at rest 0) then quoted rest
    else (if begins_line_comment rest then line_comment rest
    else (if begins_block_comment rest then block_comment rest
    else (if byte_at rest 0 == 35 then hash opens rest
    else (if is_splice rest then broken 1 rule.LeftOut
    else punctuator rest)))))))

-- a piece of a text: its bytes, and what they are
pub record Piece : Type 0 where
  pub bytes : List ℕ
  pub found : Found

abbrev pub piece_at : Bool → List ℕ → Piece
piece_at opens rest = record { bytes = take (size_of (found_at opens rest)) rest; found = found_at opens rest }

abbrev pub is_white : Found → Bool
is_white (white n) = true
is_white (token n k) = false
is_white (faulty n f fs) = false

-- white space that is a line feed, or that holds none and opens the line already
abbrev pub opens_behind : Piece → Bool → Bool
opens_behind piece opens = is_white piece.found
    && ((length piece.bytes == 1 && byte_at piece.bytes 0 == 10) || (opens && not (list_any is_line_feed piece.bytes)))

-- Behind these pieces, the nearest first, the line began outside of a comment, and it has white space alone so far.
abbrev pub opens_line : List Piece → Bool
opens_line [] = true
opens_line (piece ∷ before) = opens_behind piece (opens_line before)

-- Behind the pieces `before`, the nearest first, the bytes are cut into these pieces, each the longest that begins there.
abbrev pub IsCut : List Piece → List ℕ → List Piece → Type 0
IsCut before bytes [] = bytes ≡ []
IsCut before bytes (piece ∷ pieces) =
    (bytes ≢ []) × (piece ≡ piece_at (opens_line before) bytes) × IsCut (piece ∷ before) (drop (length piece.bytes) bytes) pieces

-- A token's text is its spelling; that of a string its bytes, and that of an operator spelled by a word the operator.
abbrev pub text_of : TokenKind → List ℕ → List ℕ
text_of kind.Str spelling = string_bytes spelling
text_of kind.Punct spelling = operator_in alternatives spelling
text_of _ spelling = spelling

abbrev pub token_from : List ℕ → List ℕ → TokenKind → Token
token_from before bytes k = record { kind = k; span = record { start = mark_of before; end = mark_of (before ++ bytes) }; text = text_of k bytes }

-- the token of a piece, which white space has none of
abbrev pub tokens_of : List ℕ → List ℕ → Found → List Token
tokens_of before bytes (white n) = []
tokens_of before bytes (token n k) = token_from before bytes k ∷ []
tokens_of before bytes (faulty n f fs) = []

abbrev pub end_token : Mark → Token
end_token m = record { kind = kind.End; span = record { start = m; end = m }; text = [] }

-- the tokens of the pieces in order, with their text and marks, and `End` behind them
abbrev pub tokens_from : List ℕ → List Piece → List Token
tokens_from before [] = end_token (mark_of before) ∷ []
tokens_from before (piece ∷ pieces) = tokens_of before piece.bytes piece.found ++ tokens_from (before ++ piece.bytes) pieces
