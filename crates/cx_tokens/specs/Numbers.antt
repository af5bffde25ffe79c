-- Numbers: the longest run that may be one, and what an integer literal is ([lex.ppnumber], [lex.icon]).
use Rattle.std.specs.Prelude.{ℕ, Bool, not, pos, ◌+◌, ◌-◌, ◌*◌, ◌^◌, ◌==◌, ◌||◌, ◌&&◌, nat_le, nat_lt, List, [], ◌∷◌, Option, Some, None, if◌then◌else◌, fold, length, take, drop}
use Rattle.cx_base.specs.declared.int_type.IntType.{IntType}
use Rattle.cx_base.specs.declared.rule.Rule.TheVariants as rule
use Rattle.cx_ints.specs.declared.literals.Suffix.{Suffix}
use Rattle.cx_ints.specs.declared.literals.Suffix.TheVariants as suffix
use Rattle.cx_ints.specs.Literals.{literal_type}
use Rattle.cx_token_defs.specs.declared.TokenKind.TheVariants as kind
use Rattle.cx_tokens.specs.Bytes.{byte_at, is_digit, is_hex, is_name_byte, run_of}
use Rattle.cx_tokens.specs.Pieces.{Found, token, broken}

-- a digit, or a point and a digit
abbrev pub begins_number : List ℕ → Bool
begins_number rest = is_digit (byte_at rest 0) || (byte_at rest 0 == 46 && is_digit (byte_at rest 1))

abbrev pub is_sign : ℕ → Bool
is_sign b = b == 43 || b == 45

-- e, E, p, P
abbrev pub is_exponent : ℕ → Bool
is_exponent b = (b == 101 || b == 69) || (b == 112 || b == 80)

-- A sign goes on behind an exponent's letter, unless a `'` stands directly before that letter.
abbrev pub takes_sign : ℕ → ℕ → Bool
takes_sign before last = is_exponent last && not (before == 39)

-- A run goes on, behind the bytes `before` and `last`, with letters, digits, `_`, points, a `'` before a letter, digit or `_`, and a sign behind an exponent's letter.
abbrev pub goes_on : ℕ → ℕ → List ℕ → Bool
goes_on before last rest = is_name_byte (byte_at rest 0) || (byte_at rest 0 == 46
    || ((byte_at rest 0 == 39 && is_name_byte (byte_at rest 1)) || (is_sign (byte_at rest 0) && takes_sign before last)))

abbrev pub number_more : ℕ → ℕ → List ℕ → ℕ
number_more before last [] = 0
number_more before last (b ∷ bytes) = if goes_on before last (b ∷ bytes) then 1 + number_more last b bytes else 0

abbrev pub number_size : List ℕ → ℕ
number_size rest = 1 + number_more 0 (byte_at rest 0) (drop 1 rest)

-- 16 behind 0x, 2 behind 0b, 8 behind another 0, else 10
abbrev pub radix_of : List ℕ → ℕ
radix_of run =
    if byte_at run 0 == 48
    then (if byte_at run 1 == 120 || byte_at run 1 == 88 then 16 else (if byte_at run 1 == 98 || byte_at run 1 == 66 then 2 else 8))
    else 10

abbrev pub prefix_size : ℕ → ℕ
prefix_size radix = if radix == 16 || radix == 2 then 2 else 0

abbrev pub digit_value : ℕ → ℕ
digit_value b = if nat_le b 57 then b - 48 else (if nat_le b 70 then b - 55 else b - 87)

abbrev pub is_digit_in : ℕ → ℕ → Bool
is_digit_in radix b = is_hex b && nat_lt (digit_value b) radix

abbrev pub is_digit_or_quote : ℕ → ℕ → Bool
is_digit_or_quote radix b = is_digit_in radix b || b == 39

-- a run without its 0x or 0b
abbrev pub body_of : List ℕ → List ℕ
body_of run = drop (prefix_size (radix_of run)) run

abbrev pub digits_size : List ℕ → ℕ
digits_size run = run_of (is_digit_or_quote (radix_of run)) (body_of run)

-- its digits, with the quotes between them
abbrev pub digits_of : List ℕ → List ℕ
digits_of run = take (digits_size run) (body_of run)

-- what stands behind its digits
abbrev pub tail_of : List ℕ → List ℕ
tail_of run = drop (digits_size run) (body_of run)

-- Behind the byte `last`, a quote stands before a digit and behind one.
abbrev pub are_separated : ℕ → List ℕ → Bool
are_separated last [] = not (last == 39)
are_separated last (b ∷ bytes) = not (b == 39 && last == 39) && are_separated b bytes

-- a digit at least, and quotes only between digits
abbrev pub are_digits : List ℕ → Bool
are_digits digits = are_separated 39 digits

abbrev pub with_digit : ℕ → ℕ → ℕ → ℕ
with_digit radix value b = if b == 39 then value else radix * value + digit_value b

abbrev pub value_of : ℕ → List ℕ → ℕ
value_of radix digits = fold (with_digit radix) 0 digits

abbrev pub is_u : ℕ → Bool
is_u b = b == 117 || b == 85

abbrev pub is_l : ℕ → Bool
is_l b = b == 108 || b == 76

abbrev pub suffix_of_one : List ℕ → Option Suffix
suffix_of_one tail = if is_u (byte_at tail 0) then Some suffix.U else (if is_l (byte_at tail 0) then Some suffix.L else None)

abbrev pub suffix_of_two : List ℕ → Option Suffix
suffix_of_two tail =
    if is_l (byte_at tail 0) && byte_at tail 1 == byte_at tail 0 then Some suffix.LL
    else (if (is_u (byte_at tail 0) && is_l (byte_at tail 1)) || (is_l (byte_at tail 0) && is_u (byte_at tail 1)) then Some suffix.UL else None)

abbrev pub suffix_of_three : List ℕ → Option Suffix
suffix_of_three tail =
    if (is_u (byte_at tail 0) && (is_l (byte_at tail 1) && byte_at tail 2 == byte_at tail 1))
    || (is_l (byte_at tail 0) && (byte_at tail 1 == byte_at tail 0 && is_u (byte_at tail 2))) then Some suffix.ULL
    else None

-- u, l or ll, or u with one of these, in either letter case, but ll of one case
abbrev pub suffix_of : List ℕ → Option Suffix
suffix_of tail =
    if length tail == 0 then Some suffix.None
    else (if length tail == 1 then suffix_of_one tail
    else (if length tail == 2 then suffix_of_two tail
    else (if length tail == 3 then suffix_of_three tail else None)))

-- the first type of the list that holds the value
abbrev pub number_type : ℕ → ℕ → Suffix → Option IntType
number_type value radix suffix = if nat_lt value (2 ^ 64) then literal_type value (radix == 10) suffix else None

abbrev pub typed : ℕ → ℕ → Option IntType → Found
typed n value None = broken n rule.NumberRange
typed n value (Some ty) = token n (kind.Number (record { ty = ty; value = pos value }))

abbrev pub of_digits : ℕ → ℕ → List ℕ → Suffix → Found
of_digits n radix digits suffix =
    if are_digits digits then typed n (value_of radix digits) (number_type (value_of radix digits) radix suffix) else broken n rule.BadNumber

abbrev pub suffixed : ℕ → List ℕ → Option Suffix → Found
suffixed n run None = broken n rule.BadNumber
suffixed n run (Some suffix) = of_digits n (radix_of run) (digits_of run) suffix

-- a run, which is one integer literal or has a fault
abbrev pub literal : ℕ → List ℕ → Found
literal n run = suffixed n run (suffix_of (tail_of run))

unfoldable pub number : List ℕ → Found
number rest = literal (number_size rest) (take (number_size rest) rest)
