-- Attribute groups `[ [ soup* ] ]` in a list of tokens ([dcl.attr.grammar]): `soup` is a token that is neither a bracket nor the
-- end of the list, or `soup*` in brackets of one kind.
use Rattle.std.specs.Prelude.{ℕ, zero, suc, Bool, false, List, [], ◌∷◌, Option, Some, None, if◌then◌else◌, length}
use Rattle.std.specs.Option.{option_map_or}
use Rattle.cx_token_defs.specs.declared.Token.{Token}
use Rattle.cx_type_names.specs.declared.role.Bracket.{Bracket}
use Rattle.cx_type_names.specs.declared.role.Bracket.TheVariants.{Square}
use Rattle.cx_type_names.specs.declared.role.Role.{Role}
use Rattle.cx_type_names.specs.declared.role.Role.TheVariants.{Opens, Closes, End}
use Rattle.cx_type_names.specs.Roles.{closes, opens, role_of, same_bracket}

-- the innermost of the open brackets is closed, if it is of this kind
abbrev pub closed : Bracket → List Bracket → Option (List Bracket)
closed b [] = None
closed b (c ∷ unclosed) = if same_bracket c b then Some unclosed else None

-- the brackets that are open behind a token, the innermost first, unless the token may not stand there
abbrev pub open_behind : Role → List Bracket → Option (List Bracket)
open_behind (Opens b) unclosed = Some (b ∷ unclosed)
open_behind (Closes b) unclosed = closed b unclosed
open_behind End unclosed = None
open_behind _ unclosed = Some unclosed

-- what is left behind the token that closes the last of the open brackets, if they are closed in their order
abbrev pub behind_closers : Option (List Bracket) → List Token → Option (List Token)
behind_closers None tokens = None
behind_closers (Some []) tokens = Some tokens
behind_closers (Some (b ∷ unclosed)) [] = None
behind_closers (Some (b ∷ unclosed)) (t ∷ tokens) = behind_closers (open_behind (role_of t) (b ∷ unclosed)) tokens

-- what is left behind `[ soup* ]`, if it stands in front
abbrev pub behind_square : List Token → Option (List Token)
behind_square [] = None
behind_square (t ∷ tokens) = if opens Square (role_of t) then behind_closers (Some (Square ∷ [])) tokens else None

abbrev pub closer_in_front : List Token → Bool
closer_in_front [] = false
closer_in_front (t ∷ tokens) = closes Square (role_of t)

-- what is left behind `]`, if it stands in front
abbrev pub behind_closer : List Token → Option (List Token)
behind_closer [] = None
behind_closer (t ∷ tokens) = if closes Square (role_of t) then Some tokens else None

-- what is left behind `[`, `[ soup* ]` and `]`, if they stand in front
abbrev pub behind_group : List Token → Option (List Token)
behind_group [] = None
behind_group (t ∷ tokens) = if opens Square (role_of t) then option_map_or behind_closer (behind_square tokens) None else None

-- behind the groups that stand in a row in front, of so many at most
abbrev pub behind_groups_upto : ℕ → List Token → List Token
behind_groups_upto zero tokens = tokens
behind_groups_upto (suc n) tokens = option_map_or (behind_groups_upto n) (behind_group tokens) tokens

-- behind all groups that stand in a row in front; there are fewer than tokens
unfoldable pub behind_groups : List Token → List Token
behind_groups tokens = behind_groups_upto (length tokens) tokens
