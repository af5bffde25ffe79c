-- What the walk over a list of tokens, from its end to its front, keeps at each place: all of it says something of the tokens from
-- the place on.
use Rattle.std.specs.Prelude.{Bool, List, [], ◌∷◌, Option, Some, None, option_map, if◌then◌else◌}
use Rattle.std.specs.Option.{option_map_or}
use Rattle.cx_token_defs.specs.declared.Token.{Token}
use Rattle.cx_type_names.specs.declared.role.Bracket.{Bracket}
use Rattle.cx_type_names.specs.declared.role.Bracket.TheVariants.{Square}
use Rattle.cx_type_names.specs.declared.role.Role.{Role}
use Rattle.cx_type_names.specs.declared.role.Role.TheVariants.{Opens, Closes, Key, Using, Typedef, End}
use Rattle.cx_type_names.specs.Groups.{behind_groups, behind_square, closer_in_front}
use Rattle.cx_type_names.specs.Names.{alias_in_front, before_semicolon, identifier, identifier_in_front}
use Rattle.cx_type_names.specs.Roles.{opens, role_of, same_bracket}

-- a closing bracket that closes none of those behind the place: its kind, what stands behind it, and that with its groups passed
pub record Closing : Type 0 where
  pub bracket : Bracket
  pub rest : List Token
  pub past : List Token

-- the closing bracket that an opening one has, if the first one is of its kind
abbrev pub matched : Bracket → List Closing → Option Closing
matched b [] = None
matched b (c ∷ cs) = if same_bracket b c.bracket then Some c else None

-- the closing brackets that are left for those before it; none where it has none
abbrev pub unmatched : Bracket → List Closing → List Closing
unmatched b [] = []
unmatched b (c ∷ cs) = if same_bracket b c.bracket then cs else []

-- the closing bracket that a token has
abbrev pub matched_by : Role → List Closing → Option Closing
matched_by (Opens b) cs = matched b cs
matched_by _ cs = None

abbrev pub closing : Bracket → List Token → Closing
closing b tokens = record { bracket = b; rest = tokens; past = behind_groups tokens }

-- the closing brackets from a token on, by those behind it
abbrev pub closings_before : Role → List Token → List Closing → List Closing
closings_before (Opens b) tokens cs = unmatched b cs
closings_before (Closes b) tokens cs = closing b tokens ∷ cs
closings_before End tokens cs = []
closings_before _ tokens cs = cs

-- the closing brackets that none behind the place opens, the first one first; a bracket without its own hides all behind it
abbrev pub closings : List Token → List Closing
closings [] = []
closings (t ∷ tokens) = closings_before (role_of t) tokens (closings tokens)

abbrev pub opens_square : Role → Bool
opens_square role = opens Square role

-- behind the closing bracket, if the test holds
abbrev pub past_if : Bool → List Token → Option Closing → List Token
past_if test front None = front
past_if test front (Some c) = if test then c.past else front

-- the list without its groups in front, by what stands behind the `]` of a second `[`, and the closing bracket of the first
abbrev pub past_group : List Token → Option (List Token) → Option Closing → List Token
past_group front None c = front
past_group front (Some inner) c = past_if (closer_in_front inner) front c

abbrev pub passed : Role → List Token → Option (List Token) → Option Closing → List Token
passed role front inner c = if opens Square role then past_group front inner c else front

-- what stands behind the `]` of a `[` in front, by its closing bracket
abbrev pub closed_by : Role → Option Closing → Option (List Token)
closed_by role c = if opens Square role then option_map (λ c. c.rest) c else None

-- what is known at a place: the tokens without their groups in front, the identifier in front that is an alias, the token directly before the
-- first `;`, what stands behind the `]` of a `[` in front, and the closing brackets
pub record Known : Type 0 where
  pub past : List Token
  pub alias : Option Token
  pub last : Option Token
  pub inner : Option (List Token)
  pub closings : List Closing

abbrev pub known_of : List Token → Known
known_of tokens = record {
  past = behind_groups tokens;
  alias = alias_in_front tokens;
  last = before_semicolon tokens;
  inner = behind_square tokens;
  closings = closings tokens;
}

-- the identifier that a token makes a type's name, by what is known behind it
abbrev pub name_by : Role → Known → Option Token
name_by Key known = identifier_in_front known.past
name_by Using known = known.alias
name_by Typedef known = option_map_or identifier known.last None
name_by _ known = None

-- the list without its first token
abbrev pub rest_of : List Token → List Token
rest_of [] = []
rest_of (t ∷ tokens) = tokens
