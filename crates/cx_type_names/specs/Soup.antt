-- Attribute groups as a grammar spells them ([dcl.attr.grammar]).
--     attrs = group*
--     group = "[" "[" soup* "]" "]"
--     soup  = any token but a bracket or the end | "(" soup* ")" | "[" soup* "]" | "{" soup* "}"
use Rattle.std.specs.Prelude.{◌≡◌, Bool, true, false, List, [], ◌∷◌, ◌++◌}
use Rattle.cx_token_defs.specs.declared.Token.{Token}
use Rattle.cx_type_names.specs.declared.role.Bracket.{Bracket}
use Rattle.cx_type_names.specs.declared.role.Bracket.TheVariants.{Square}
use Rattle.cx_type_names.specs.declared.role.Role.{Role}
use Rattle.cx_type_names.specs.declared.role.Role.TheVariants.{Opens, Closes, End}
use Rattle.cx_type_names.specs.Roles.{role_of}

-- any token but a bracket or the end
abbrev pub is_plain : Role → Bool
is_plain (Opens b) = false
is_plain (Closes b) = false
is_plain End = false
is_plain _ = true

-- the tokens are soup*
pub data AreSoup : List Token → Type 0 where
  empty : AreSoup []
  plain : (t : Token) (s : List Token) → is_plain (role_of t) ≡ true → AreSoup s → AreSoup (t ∷ s)
  nested : (b : Bracket) (left right : Token) (inner s : List Token) → role_of left ≡ Opens b → role_of right ≡ Closes b
      → AreSoup inner → AreSoup s → AreSoup (left ∷ inner ++ right ∷ s)

-- the tokens are a group and then the rest
pub record IsGroup (tokens rest : List Token) : Type 0 where
  pub first : Token
  pub second : Token
  pub soup : List Token
  pub third : Token
  pub last : Token
  pub spelled : tokens ≡ first ∷ second ∷ (soup ++ third ∷ last ∷ rest)
  pub opened : role_of first ≡ Opens Square
  pub opened_again : role_of second ≡ Opens Square
  pub filled : AreSoup soup
  pub closed : role_of third ≡ Closes Square
  pub closed_again : role_of last ≡ Closes Square

-- the tokens are groups and then the rest
pub data AreGroups : List Token → List Token → Type 0 where
  none : (s : List Token) → AreGroups s s
  more : (s r rest : List Token) → IsGroup s r → AreGroups r rest → AreGroups s rest
