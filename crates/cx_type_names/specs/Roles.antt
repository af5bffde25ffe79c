-- What single tokens are to the names of types.
use Rattle.std.specs.Prelude.{ℕ, Bool, true, false, ◌||◌, List, if◌then◌else◌, codes}
use Rattle.std.specs.Str.{bytes_eq}
use Rattle.cx_token_defs.specs.declared.Token.{Token}
use Rattle.cx_token_defs.specs.declared.TokenKind.{TokenKind}
use Rattle.cx_token_defs.specs.declared.TokenKind.TheVariants as kind
use Rattle.cx_type_names.specs.declared.role.Bracket.{Bracket}
use Rattle.cx_type_names.specs.declared.role.Bracket.TheVariants.{Round, Square, Curly}
use Rattle.cx_type_names.specs.declared.role.Role.{Role}
use Rattle.cx_type_names.specs.declared.role.Role.TheVariants.{Opens, Closes, Key, Using, Typedef, Equals, Semicolon, Name, End, Other}

-- the keywords that a class or an enumeration is declared by ([class.pre], [dcl.enum])
abbrev pub is_key : List ℕ → Bool
is_key text = bytes_eq text (codes "struct") || (bytes_eq text (codes "class") || (bytes_eq text (codes "union") || bytes_eq text (codes "enum")))

abbrev pub word_role : List ℕ → Role
word_role text =
    if is_key text then Key
    else (if bytes_eq text (codes "using") then Using
    else (if bytes_eq text (codes "typedef") then Typedef
    else Other))

abbrev pub mark_role : List ℕ → Role
mark_role text =
    if bytes_eq text (codes "(") then Opens Round
    else (if bytes_eq text (codes "[") then Opens Square
    else (if bytes_eq text (codes "{") then Opens Curly
    else (if bytes_eq text (codes ")") then Closes Round
    else (if bytes_eq text (codes "]") then Closes Square
    else (if bytes_eq text (codes "}") then Closes Curly
    else (if bytes_eq text (codes "=") then Equals
    else (if bytes_eq text (codes ";") then Semicolon
    else Other)))))))

abbrev pub role_by : TokenKind → List ℕ → Role
role_by kind.Word text = word_role text
role_by kind.Punct text = mark_role text
role_by kind.Ident text = Name
role_by kind.End text = End
role_by _ text = Other

-- unfolded by none that does not ask for it
unfoldable pub role_of : Token → Role
role_of t = role_by t.kind t.text

abbrev pub is_name : Role → Bool
is_name Name = true
is_name _ = false

abbrev pub is_equals : Role → Bool
is_equals Equals = true
is_equals _ = false

abbrev pub is_semicolon : Role → Bool
is_semicolon Semicolon = true
is_semicolon _ = false

abbrev pub same_bracket : Bracket → Bracket → Bool
same_bracket Round Round = true
same_bracket Square Square = true
same_bracket Curly Curly = true
same_bracket _ _ = false

abbrev pub closes : Bracket → Role → Bool
closes b (Closes c) = same_bracket b c
closes b _ = false

abbrev pub opens : Bracket → Role → Bool
opens b (Opens c) = same_bracket b c
opens b _ = false
