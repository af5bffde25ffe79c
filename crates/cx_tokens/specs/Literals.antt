-- Character and string literals, and escapes ([lex.ccon], [lex.string]).
use Rattle.std.specs.Prelude.{ℕ, ℤ, pos, zero, suc, Bool, not, ◌+◌, ◌-◌, ◌-ℤ◌, ◌==◌, ◌||◌, ◌&&◌, nat_le, nat_lt, min, List, [], ◌∷◌, ◌++◌, Option, Some, None, if◌then◌else◌, length, take, drop, map, is_none}
use Rattle.std.specs.Option.{option_or, option_to_list, unwrap_or}
use Rattle.cx_base.specs.declared.rule.Rule.{Rule}
use Rattle.cx_base.specs.declared.rule.Rule.TheVariants as rule
use Rattle.cx_token_defs.specs.declared.TokenKind.{TokenKind}
use Rattle.cx_token_defs.specs.declared.TokenKind.TheVariants as kind
use Rattle.cx_tokens.specs.declared.shapes.Flaw.{Flaw}
use Rattle.cx_tokens.specs.Bytes.{byte_at, begins_name, is_blank, is_hex, is_octal, is_splice, run_of}
use Rattle.cx_tokens.specs.Numbers.{value_of}
use Rattle.cx_tokens.specs.Pieces.{Found, token, flaw, unless_faulty}

-- a `\` that is no line splice
unfoldable pub begins_escape : List ℕ → Bool
begins_escape rest = byte_at rest 0 == 92 && not (is_splice rest)

-- how many octal digits stand behind the `\`, at most three
abbrev pub octal_size : List ℕ → ℕ
octal_size rest = min 3 (run_of is_octal (drop 1 rest))

-- how many hexadecimal digits stand behind the `\x`
abbrev pub hex_size : List ℕ → ℕ
hex_size rest = run_of is_hex (drop 2 rest)

-- from the `\` to the escape's last byte
unfoldable pub escape_size : List ℕ → ℕ
escape_size rest =
    if is_octal (byte_at rest 1) then 1 + octal_size rest
    else (if byte_at rest 1 == 120 then 2 + hex_size rest else min 2 (length rest))

-- ' " ? \ a b f n r t v
abbrev pub simple_escape : ℕ → Option ℕ
simple_escape b =
    if b == 39 || (b == 34 || (b == 63 || b == 92)) then Some b
    else (if b == 97 then Some 7 else (if b == 98 then Some 8 else (if b == 102 then Some 12 else (if b == 110 then Some 10
    else (if b == 114 then Some 13 else (if b == 116 then Some 9 else (if b == 118 then Some 11 else None)))))))

-- a value that has a byte
abbrev pub byte_of : ℕ → Option ℕ
byte_of value = if nat_lt value 256 then Some value else None

-- the escape's value, and none where it is a bad one
unfoldable pub escape_value : List ℕ → Option ℕ
escape_value rest =
    if is_octal (byte_at rest 1) then byte_of (value_of 8 (take (octal_size rest) (drop 1 rest)))
    else (if byte_at rest 1 == 120 then (if hex_size rest == 0 then None else byte_of (value_of 16 (take (hex_size rest) (drop 2 rest))))
    else simple_escape (byte_at rest 1))

-- an escape or a single byte
unfoldable pub part_size : List ℕ → ℕ
part_size rest = if begins_escape rest then escape_size rest else 1

unfoldable pub part_value : List ℕ → ℕ
part_value rest = if begins_escape rest then unwrap_or (escape_value rest) 0 else byte_at rest 0

-- a literal ends before its quote, or before the line's end
abbrev pub ends : ℕ → ℕ → Bool
ends quote b = b == quote || b == 10

-- The places of a literal at which an escape or a single byte begins, each as the rest of the text from there. The first `skip` bytes belong to what begins before them.
abbrev pub parts_behind : ℕ → ℕ → List ℕ → List (List ℕ)
parts_behind quote skip [] = []
parts_behind quote (suc skip) (b ∷ bytes) = parts_behind quote skip bytes
parts_behind quote zero (b ∷ bytes) = if ends quote b then [] else (b ∷ bytes) ∷ parts_behind quote (part_size (b ∷ bytes) - 1) bytes

-- the parts of a literal, given what stands behind its opening quote
abbrev pub parts : ℕ → List ℕ → List (List ℕ)
parts quote body = parts_behind quote 0 body

abbrev pub sizes : List (List ℕ) → ℕ
sizes [] = 0
sizes (rest ∷ rests) = part_size rest + sizes rests

abbrev pub inner_size : ℕ → List ℕ → ℕ
inner_size quote body = sizes (parts quote body)

unfoldable pub is_closed : ℕ → List ℕ → Bool
is_closed quote body = byte_at body (inner_size quote body) == quote

-- with its quotes, or from its quote up to the line's end
unfoldable pub literal_size : ℕ → List ℕ → ℕ
literal_size quote body = 1 + inner_size quote body + (if is_closed quote body then 1 else 0)

-- how many bytes of the literal stand before a part of it
abbrev pub place_in : List ℕ → List ℕ → ℕ
place_in body rest = 1 + (length body - length rest)

unfoldable pub bad_escape : ℕ → List ℕ → Option Flaw
bad_escape start rest = if begins_escape rest && is_none (escape_value rest) then Some (flaw start (escape_size rest) rule.BadEscape) else None

-- In a string only blanks below 0x20 may stand, but no carriage return; between the quotes of a character bytes from 0x80 neither.
unfoldable pub is_bad_byte : ℕ → ℕ → Bool
is_bad_byte quote b =
    if quote == 34 then nat_lt b 32 && not (b == 9 || (b == 11 || b == 12))
    else (nat_lt b 32 && not (is_blank b)) || nat_le 128 b

unfoldable pub byte_flaw : ℕ → ℕ → List ℕ → Option Flaw
byte_flaw quote start rest =
    if is_splice rest then Some (flaw start 1 rule.LeftOut)
    else (if is_bad_byte quote (byte_at rest 0) then Some (flaw start 1 rule.BadByte) else None)

-- one escape, or one byte from 0x20 to 0x7E other than `'` and `\`
abbrev pub is_character : List ℕ → Bool
is_character rest = begins_escape rest
    || (nat_le 32 (byte_at rest 0) && (nat_le (byte_at rest 0) 126 && not (byte_at rest 0 == 92 || byte_at rest 0 == 39)))

-- one such, and the quote directly behind it
unfoldable pub is_one_character : List ℕ → Bool
is_one_character body = is_character body && byte_at body (part_size body) == 39

-- a byte as a value of `char`, which is signed
abbrev pub char_of : ℕ → ℤ
char_of b = if nat_lt b 128 then pos b else pos b -ℤ pos 256

-- a string that is closed before the line's end, or a character that holds one
unfoldable pub is_whole : ℕ → List ℕ → Bool
is_whole quote body = if quote == 34 then is_closed quote body else is_one_character body

abbrev pub own_rule : ℕ → Rule
own_rule quote = if quote == 34 then rule.OpenString else rule.BadCharacter

abbrev pub own_flaws : ℕ → List ℕ → List Flaw
own_flaws quote body =
    if is_whole quote body then []
    else flaw 0 (literal_size quote body) (own_rule quote) ∷ []

-- a literal directly before a letter or `_`
abbrev pub behind_flaws : ℕ → List ℕ → List Flaw
behind_flaws quote body =
    if begins_name (byte_at body (literal_size quote body - 1)) then flaw 0 (literal_size quote body) rule.LeftOut ∷ [] else []

-- the first flaw that a part has
abbrev pub first_flaw : (List ℕ → Option Flaw) → List (List ℕ) → Option Flaw
first_flaw flaw_in [] = None
first_flaw flaw_in (rest ∷ rests) = option_or (flaw_in rest) (first_flaw flaw_in rests)

-- a bad escape, or else these
abbrev pub first_or : Option Flaw → List Flaw → List Flaw
first_or None own = own
first_or (Some escape) own = escape ∷ []

-- A literal with a bad escape has the fault of the first, and none of its own; beside these it has that of the first byte that may not stand there.
abbrev pub literal_flaws : ℕ → List ℕ → List Flaw
literal_flaws quote body =
    first_or (first_flaw (λ rest. bad_escape (place_in body rest) rest) (parts quote body)) (own_flaws quote body ++ behind_flaws quote body)
    ++ option_to_list (first_flaw (λ rest. byte_flaw quote (place_in body rest) rest) (parts quote body))

unfoldable pub literal_kind : ℕ → List ℕ → TokenKind
literal_kind quote body = if quote == 34 then kind.Str else kind.Char (char_of (part_value body))

unfoldable pub quoted_at : ℕ → List ℕ → Found
quoted_at quote body = unless_faulty (literal_flaws quote body) (token (literal_size quote body) (literal_kind quote body))

-- from a `'` or `"` on
unfoldable pub quoted : List ℕ → Found
quoted rest = quoted_at (byte_at rest 0) (drop 1 rest)

-- the bytes of a string, given its spelling
abbrev pub string_bytes : List ℕ → List ℕ
string_bytes spelling = map part_value (parts 34 (drop 1 spelling))
