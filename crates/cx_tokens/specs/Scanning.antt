-- Where a scan of the code stops, and what it looks for in a literal.
use Rattle.std.specs.Prelude.{ℕ, Bool, not, List, Option}
use Rattle.cx_tokens.specs.declared.scan.Stop.{Stop}
use Rattle.cx_tokens.specs.declared.scan.Stop.TheVariants as stop
use Rattle.cx_tokens.specs.declared.literals.Look.{Look}
use Rattle.cx_tokens.specs.declared.literals.Look.TheVariants as look
use Rattle.cx_tokens.specs.declared.shapes.Flaw.{Flaw}
use Rattle.cx_tokens.specs.Bytes.{byte_at, is_hex, is_name_byte, is_octal, is_space_or_tab, is_splice}
use Rattle.cx_tokens.specs.Literals.{bad_escape, byte_flaw, first_flaw, parts, place_in}
use Rattle.cx_tokens.specs.Numbers.{is_digit_or_quote}
use Rattle.cx_tokens.specs.Space.{comment_end_here, line_feed_here}

abbrev pub stops_at : Stop → List ℕ → Bool
stops_at stop.LineFeed rest = line_feed_here rest
stops_at stop.CommentEnd rest = comment_end_here rest
stops_at stop.Splice rest = is_splice rest
stops_at stop.NotSpaceOrTab rest = not (is_space_or_tab (byte_at rest 0))
stops_at stop.NotName rest = not (is_name_byte (byte_at rest 0))
stops_at stop.NotOctal rest = not (is_octal (byte_at rest 0))
stops_at stop.NotHex rest = not (is_hex (byte_at rest 0))
stops_at (stop.NotDigit radix) rest = not (is_digit_or_quote radix (byte_at rest 0))

abbrev pub flaw_in : Look → ℕ → ℕ → List ℕ → Option Flaw
flaw_in look.Escapes quote start rest = bad_escape start rest
flaw_in look.Bytes quote start rest = byte_flaw quote start rest

-- the first flaw in a literal's body from some place on
abbrev pub flaw_from : Look → ℕ → List ℕ → List ℕ → Option Flaw
flaw_from look quote body bytes = first_flaw (λ rest. flaw_in look quote (place_in body rest) rest) (parts quote bytes)
