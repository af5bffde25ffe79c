-- White space: blanks, comments and marker lines ([lex.whitespace], [lex.comment]).
use Rattle.std.specs.Prelude.{ℕ, Bool, ◌+◌, ◌==◌, ◌||◌, ◌&&◌, nat_lt, min, List, [], ◌∷◌, if◌then◌else◌, codes, length, take, drop}
use Rattle.std.specs.Str.{bytes_eq}
use Rattle.cx_base.specs.declared.rule.Rule.TheVariants as rule
use Rattle.cx_tokens.specs.declared.shapes.Flaw.{Flaw}
use Rattle.cx_tokens.specs.Bytes.{byte_at, is_digit, is_name_byte, is_space_or_tab, is_splice, place_where, run_of}
use Rattle.cx_tokens.specs.Pieces.{Found, white, faulty, flaw, unless_faulty}

-- the rest begins with a line feed, or with `*/`
abbrev pub line_feed_here : List ℕ → Bool
line_feed_here rest = byte_at rest 0 == 10

abbrev pub comment_end_here : List ℕ → Bool
comment_end_here rest = byte_at rest 0 == 42 && byte_at rest 1 == 47

-- from the first n bytes up to the line's end
abbrev pub line_size : ℕ → List ℕ → ℕ
line_size n rest = n + place_where line_feed_here (drop n rest)

-- the first spliced line of the first n bytes is a fault at its `\`
abbrev pub splices : ℕ → List ℕ → List Flaw
splices n rest = if nat_lt (place_where is_splice rest) (min n (length rest)) then flaw (place_where is_splice rest) 1 rule.LeftOut ∷ [] else []

abbrev pub begins_line_comment : List ℕ → Bool
begins_line_comment rest = byte_at rest 0 == 47 && byte_at rest 1 == 47

-- from `//` up to the line feed
unfoldable pub line_comment : List ℕ → Found
line_comment rest = unless_faulty (splices (line_size 2 rest) rest) (white (line_size 2 rest))

abbrev pub begins_block_comment : List ℕ → Bool
begins_block_comment rest = byte_at rest 0 == 47 && byte_at rest 1 == 42

-- how many bytes stand between `/*` and the next `*/`
abbrev pub comment_body : List ℕ → ℕ
comment_body rest = place_where comment_end_here (drop 2 rest)

-- from `/*` to the next `*/` behind it; comments don't nest
unfoldable pub block_comment : List ℕ → Found
block_comment rest =
    if nat_lt (comment_body rest) (length (drop 2 rest))
    then unless_faulty (splices (comment_body rest + 4) rest) (white (comment_body rest + 4))
    else faulty (comment_body rest + 2) (flaw 0 2 rule.OpenComment) (splices (comment_body rest + 2) rest)

-- what stands behind a `#`, spaces and tabs
abbrev pub behind_hash : List ℕ → List ℕ
behind_hash rest = drop (run_of is_space_or_tab (drop 1 rest)) (drop 1 rest)

abbrev pub word_of : List ℕ → List ℕ
word_of rest = take (run_of is_name_byte rest) rest

-- a `#` behind which a digit or one of the words `pragma` and `line` comes
abbrev pub is_marker : List ℕ → Bool
is_marker rest = is_digit (byte_at (behind_hash rest) 0)
    || (bytes_eq (word_of (behind_hash rest)) (codes "pragma") || bytes_eq (word_of (behind_hash rest)) (codes "line"))

-- where a line begins with a marker, it is white space up to its line feed, whatever stands in it
unfoldable pub hash : Bool → List ℕ → Found
hash opens rest = if opens && is_marker rest then white (line_size 1 rest) else faulty 1 (flaw 0 1 rule.Directive) []
