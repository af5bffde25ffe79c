-- The names of types in a list of tokens ([class.pre], [dcl.enum], [dcl.type.elab], [dcl.typedef]): three of the library, and each identifier that
-- stands behind `struct`, `class`, `union` or `enum` (so also behind `enum class` and `enum struct`), attribute groups passed over; directly
-- behind `using`, with groups and then `=` behind it; or directly before the first `;` behind `typedef`.
use Rattle.std.specs.Prelude.{ℕ, Bool, false, ◌&&◌, List, [], ◌∷◌, Option, Some, None, if◌then◌else◌, codes}
use Rattle.std.specs.List.{list_any}
use Rattle.std.specs.Ordering.{nat_cmp}
use Rattle.std.specs.Cmp.Lexicographic.{slice_cmp}
use Rattle.std.specs.FinSet.{FinSet, from_list}
use Rattle.std.specs.Option.{option_map_or}
use Rattle.std.specs.Str.{bytes_eq}
use Rattle.cx_token_defs.specs.declared.Token.{Token}
use Rattle.cx_type_names.specs.declared.role.Role.{Role}
use Rattle.cx_type_names.specs.declared.role.Role.TheVariants.{Key, Using, Typedef}
use Rattle.cx_type_names.specs.Groups.{behind_groups}
use Rattle.cx_type_names.specs.Roles.{is_equals, is_name, is_semicolon, role_of}

-- the token, if it is an identifier
abbrev pub identifier : Token → Option Token
identifier t = if is_name (role_of t) then Some t else None

-- the identifier in front
abbrev pub identifier_in_front : List Token → Option Token
identifier_in_front [] = None
identifier_in_front (t ∷ tokens) = identifier t

abbrev pub equals_in_front : List Token → Bool
equals_in_front [] = false
equals_in_front (t ∷ tokens) = is_equals (role_of t)

abbrev pub semicolon_in_front : List Token → Bool
semicolon_in_front [] = false
semicolon_in_front (t ∷ tokens) = is_semicolon (role_of t)

-- the identifier in front, where attribute groups and then `=` stand behind it
abbrev pub alias_in_front : List Token → Option Token
alias_in_front [] = None
alias_in_front (t ∷ tokens) = if equals_in_front (behind_groups tokens) then identifier t else None

-- the token directly before the first `;`
abbrev pub before_semicolon : List Token → Option Token
before_semicolon [] = None
before_semicolon (t ∷ tokens) =
    if is_semicolon (role_of t) then None else (if semicolon_in_front tokens then Some t else before_semicolon tokens)

-- the identifier that a token makes a type's name, by what stands behind it
abbrev pub name_behind : Role → List Token → Option Token
name_behind Key tokens = identifier_in_front (behind_groups tokens)
name_behind Using tokens = alias_in_front tokens
name_behind Typedef tokens = option_map_or identifier (before_semicolon tokens) None
name_behind _ tokens = None

-- the identifier that the token in front makes a type's name
abbrev pub name_in_front : List Token → Option Token
name_in_front [] = None
name_in_front (t ∷ tokens) = name_behind (role_of t) tokens

-- the token's text before these names, if there is one
abbrev pub with_text : Option Token → List (List ℕ) → List (List ℕ)
with_text None names = names
with_text (Some t) names = t.text ∷ names

-- `size_t`, `ptrdiff_t` and `nullptr_t` ([cstddef.syn])
abbrev pub standard_names : List (List ℕ)
standard_names = codes "size_t" ∷ codes "ptrdiff_t" ∷ codes "nullptr_t" ∷ []

abbrev pub is_standard : List ℕ → Bool
is_standard text = list_any (bytes_eq text) standard_names

-- the names that the places of the list make types', in their order, and behind them the three
abbrev pub names_in : List Token → List (List ℕ)
names_in [] = standard_names
names_in (t ∷ tokens) = with_text (name_behind (role_of t) tokens) (names_in tokens)

-- the text is among them
abbrev pub is_type_name : List Token → List ℕ → Bool
is_type_name tokens text = list_any (bytes_eq text) (names_in tokens)

-- the token is an identifier with this text
abbrev pub is_identifier : List ℕ → Token → Bool
is_identifier text t = is_name (role_of t) && bytes_eq text t.text

-- A set of texts.
abbrev pub Texts : Type 0
Texts = FinSet (slice_cmp nat_cmp)

-- the names of types of a list of tokens
abbrev pub type_names : List Token → Texts
type_names tokens = from_list (names_in tokens)
