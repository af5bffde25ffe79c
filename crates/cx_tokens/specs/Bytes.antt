-- The bytes of a source, and where among them something first stands ([lex.charset]).
use Rattle.std.specs.Prelude.{ℕ, Bool, not, ◌+◌, ◌==◌, ◌||◌, ◌&&◌, nat_le, List, [], ◌∷◌, if◌then◌else◌, slice_index}

-- the byte at a place, and 0 past the end
abbrev pub byte_at : List ℕ → ℕ → ℕ
byte_at bytes i = slice_index bytes i

-- space, tab, line feed, vertical tab, form feed, carriage return
abbrev pub is_blank : ℕ → Bool
is_blank b = b == 32 || (nat_le 9 b && nat_le b 13)

abbrev pub is_space_or_tab : ℕ → Bool
is_space_or_tab b = b == 32 || b == 9

abbrev pub is_line_feed : ℕ → Bool
is_line_feed b = b == 10

abbrev pub is_digit : ℕ → Bool
is_digit b = nat_le 48 b && nat_le b 57

abbrev pub is_octal : ℕ → Bool
is_octal b = nat_le 48 b && nat_le b 55

abbrev pub is_binary : ℕ → Bool
is_binary b = nat_le 48 b && nat_le b 49

abbrev pub is_hex : ℕ → Bool
is_hex b = is_digit b || ((nat_le 65 b && nat_le b 70) || (nat_le 97 b && nat_le b 102))

-- a letter or `_`
abbrev pub begins_name : ℕ → Bool
begins_name b = (nat_le 97 b && nat_le b 122) || ((nat_le 65 b && nat_le b 90) || b == 95)

-- a letter, a digit or `_`
abbrev pub is_name_byte : ℕ → Bool
is_name_byte b = begins_name b || is_digit b

-- how many bytes stand before the first place from which the rest passes the test, all where none does
abbrev pub place_where : (List ℕ → Bool) → List ℕ → ℕ
place_where test [] = 0
place_where test (b ∷ bytes) = if test (b ∷ bytes) then 0 else 1 + place_where test bytes

-- how many bytes from the front on pass the test
abbrev pub run_of : (ℕ → Bool) → List ℕ → ℕ
run_of test bytes = place_where (λ rest. not (test (byte_at rest 0))) bytes

-- a `\` directly before a line feed, or before a carriage return and line feed ([lex.phases])
abbrev pub is_splice : List ℕ → Bool
is_splice rest = byte_at rest 0 == 92 && (byte_at rest 1 == 10 || (byte_at rest 1 == 13 && byte_at rest 2 == 10))
