-- The closing brackets that the walk keeps are those that the definition comes to.
use Rattle.std.proofs.Common.{◌≡◌, Bool, true, false, List, [], ◌∷◌, Option, Some, None, option_map, refl, sym, ap, ◌∙◌, if◌then◌else◌}
use Rattle.std.specs.Option.{option_map_or}
use Rattle.cx_token_defs.specs.declared.Token.{Token}
use Rattle.cx_type_names.specs.declared.role.Bracket.{Bracket}
use Rattle.cx_type_names.specs.declared.role.Bracket.TheVariants.{Round, Square, Curly}
use Rattle.cx_type_names.specs.declared.role.Role.{Role}
use Rattle.cx_type_names.specs.declared.role.Role.TheVariants.{Opens, Closes, End}
use Rattle.cx_type_names.specs.Groups.{behind_closer, behind_closers, behind_groups, behind_square, closer_in_front, open_behind}
use Rattle.cx_type_names.specs.Names.{alias_in_front, before_semicolon}
use Rattle.cx_type_names.specs.Roles.{closes, opens, role_of, same_bracket}
use Rattle.cx_type_names.specs.Walk.{Closing, Known, closed_by, closings, closings_before, known_of, matched, matched_by, passed, past_group, past_if, unmatched}
use Rattle.cx_type_names.proofs.Passing.{groups-first, none-some, some-same}

-- what is left once the open brackets have taken their closing ones in turn
walk : List Bracket → List Token → List Closing → Option (List Token)
walk [] s cs = Some s
walk (b ∷ u) s [] = None
walk (b ∷ u) s (c ∷ cs) = if same_bracket b c.bracket then walk u c.rest cs else None

-- where a bracket is open, the tokens themselves are no matter
walk-any : (b : Bracket) (u : List Bracket) (s r : List Token) (cs : List Closing) → walk (b ∷ u) s cs ≡ walk (b ∷ u) r cs
unfolding walk
walk-any b u s r [] = refl
walk-any b u s r (c ∷ cs) = refl

walk-opened : (d b : Bracket) (u : List Bracket) (s r : List Token) (cs : List Closing)
    → walk (d ∷ b ∷ u) s cs ≡ walk (b ∷ u) r (unmatched d cs)
unfolding walk
walk-opened d b u s r [] = refl
walk-opened d b u s r (c ∷ cs) = by (same_bracket d c.bracket)
  where
    by : (same : Bool) → (if same then walk (b ∷ u) c.rest cs else None) ≡ walk (b ∷ u) r (if same then cs else [])
    by true = walk-any b u c.rest r cs
    by false = refl

walked : (s : List Token) (u : List Bracket) → behind_closers (Some u) s ≡ walk u s (closings s)
unfolding walk
walked [] [] = refl
walked [] (b ∷ u) = refl
walked (t ∷ s) [] = refl
walked (t ∷ s) (b ∷ u) = by (role_of t) (walked s)
  where
    closed : (same : Bool) → behind_closers (Some u) s ≡ walk u s (closings s)
        → behind_closers (if same then Some u else None) s ≡ (if same then walk u s (closings s) else None)
    closed true rest = rest
    closed false rest = refl

    by : (r : Role) → ((v : List Bracket) → behind_closers (Some v) s ≡ walk v s (closings s))
        → behind_closers (open_behind r (b ∷ u)) s ≡ walk (b ∷ u) (t ∷ s) (closings_before r s (closings s))
    by (Opens d) rest = rest (d ∷ b ∷ u) ∙ walk-opened d b u s (t ∷ s) (closings s)
    by (Closes d) rest = closed (same_bracket b d) (rest u)
    by End rest = refl
    by _ rest = rest (b ∷ u) ∙ walk-any b u s (t ∷ s) (closings s)

-- behind each closing bracket those follow that stand behind it
abbrev Chained : List Closing → Type 0
Chained [] = Unit {0}
Chained (c ∷ cs) = (cs ≡ closings c.rest) × (c.past ≡ behind_groups c.rest) × Chained cs

chained : (s : List Token) → Chained (closings s)
chained [] = tt
chained (t ∷ s) = by (role_of t) (chained s)
  where
    opened : (b : Bracket) (cs : List Closing) → Chained cs → Chained (unmatched b cs)
    opened b [] h = tt
    opened b (c ∷ cs) h = left (same_bracket b c.bracket)
      where
        left : (same : Bool) → Chained (if same then cs else [])
        left true = h.2
        left false = tt

    by : (r : Role) → Chained (closings s) → Chained (closings_before r s (closings s))
    by (Opens b) rest = opened b (closings s) rest
    by (Closes b) rest = (refl, refl, rest)
    by End rest = tt
    by _ rest = rest

-- one bracket is closed by the first closing one
walk-one : (s : List Token) (cs : List Closing) → walk (Square ∷ []) s cs ≡ option_map (λ c. c.rest) (matched Square cs)
unfolding walk
walk-one s [] = refl
walk-one s (c ∷ cs) = by (same_bracket Square c.bracket)
  where
    by : (same : Bool) → (if same then walk [] c.rest cs else None) ≡ option_map (λ c. c.rest) (if same then Some c else None)
    by true = refl
    by false = refl

-- `[ soup* ]` by the closing bracket
pub square-closed : (t : Token) (s : List Token) → closed_by (role_of t) (matched_by (role_of t) (closings s)) ≡ behind_square (t ∷ s)
square-closed t s = by (role_of t)
  where
    by : (r : Role) → closed_by r (matched_by r (closings s)) ≡ (if opens Square r then behind_closers (Some (Square ∷ [])) s else None)
    by (Opens Square) = sym (walked s (Square ∷ []) ∙ walk-one s (closings s))
    by (Opens Round) = refl
    by (Opens Curly) = refl
    by _ = refl

matched-rest : (cs : List Closing) (inner : List Token) → Chained cs → option_map (λ c. c.rest) (matched Square cs) ≡ Some inner
    → unmatched Square cs ≡ closings inner
matched-rest [] inner h e = none-some inner e
matched-rest (c ∷ cs) inner h e = by (same_bracket Square c.bracket) e
  where
    by : (same : Bool) → option_map (λ c. c.rest) (if same then Some c else None) ≡ Some inner → (if same then cs else []) ≡ closings inner
    by true e = h.0 ∙ ap closings (some-same c.rest inner e)
    by false e = none-some inner e

-- the closing brackets behind `[ soup* ]` are those of what follows it
square-closings : (s inner : List Token) → behind_square s ≡ Some inner → closings s ≡ closings inner
square-closings [] inner e = none-some inner e
square-closings (t ∷ s) inner e = by (role_of t) e
  where
    by : (r : Role) → (if opens Square r then behind_closers (Some (Square ∷ [])) s else None) ≡ Some inner → closings_before r s (closings s) ≡ closings inner
    by (Opens Square) e = matched-rest (closings s) inner (chained s) (sym (walked s (Square ∷ []) ∙ walk-one s (closings s)) ∙ e)
    by (Opens Round) e = none-some inner e
    by (Opens Curly) e = none-some inner e
    by _ e = none-some inner e

past_if-false : (front : List Token) (c : Option Closing) → past_if false front c ≡ front
past_if-false front None = refl
past_if-false front (Some c) = refl

-- behind `[ soup* ]`, groups are passed by the closing brackets
group-passed : (front inner : List Token)
    → past_if (closer_in_front inner) front (matched Square (closings inner)) ≡ option_map_or behind_groups (behind_closer inner) front
group-passed front [] = refl
group-passed front (u ∷ r) = by (role_of u)
  where
    by : (q : Role) → past_if (closes Square q) front (matched Square (closings_before q r (closings r)))
        ≡ option_map_or behind_groups (if closes Square q then Some r else None) front
    by (Closes Square) = refl
    by (Closes Round) = refl
    by (Closes Curly) = refl
    by (Opens b) = past_if-false front (matched Square (unmatched b (closings r)))
    by End = refl
    by _ = past_if-false front (matched Square (closings r))

-- groups are passed by the closing brackets
pub groups-passed : (t : Token) (s : List Token)
    → passed (role_of t) (t ∷ s) (behind_square s) (matched_by (role_of t) (closings s)) ≡ behind_groups (t ∷ s)
groups-passed t s = by (role_of t) ∙ sym (groups-first t s)
  where
    square : (o : Option (List Token)) → behind_square s ≡ o
        → past_group (t ∷ s) o (matched Square (closings s)) ≡ option_map_or behind_groups (option_map_or behind_closer o None) (t ∷ s)
    square None e = refl
    square (Some inner) e =
        ap (λ cs. past_group (t ∷ s) (Some inner) (matched Square cs)) (square-closings s inner e) ∙ group-passed (t ∷ s) inner

    by : (r : Role) → passed r (t ∷ s) (behind_square s) (matched_by r (closings s))
        ≡ option_map_or behind_groups (if opens Square r then option_map_or behind_closer (behind_square s) None else None) (t ∷ s)
    by (Opens Square) = square (behind_square s) refl
    by (Opens Round) = refl
    by (Opens Curly) = refl
    by _ = refl

-- a token further towards the front
pub known-on : (t : Token) (s front : List Token) (role : Role) (inside : Known) (closer : Option Closing) (new : Known)
    → front ≡ t ∷ s → role ≡ role_of t → inside ≡ known_of s → closer ≡ matched_by role inside.closings
    → new.past ≡ passed role front inside.inner closer → new.alias ≡ alias_in_front (t ∷ s) → new.last ≡ before_semicolon (t ∷ s)
    → new.inner ≡ closed_by role closer → new.closings ≡ closings_before role s inside.closings → new ≡ known_of (t ∷ s)
known-on t s front role inside closer new shape kind known own past alias last inner left =
    let its : closer ≡ matched_by (role_of t) (closings s) = own ∙ (λ i. matched_by (kind i) ((known i).closings)) in
    let passes : new.past ≡ behind_groups (t ∷ s) = past ∙ (λ i. passed (kind i) (shape i) ((known i).inner) (its i)) ∙ groups-passed t s in
    let inside : new.inner ≡ behind_square (t ∷ s) = inner ∙ (λ i. closed_by (kind i) (its i)) ∙ square-closed t s in
    let stay : new.closings ≡ closings (t ∷ s) = left ∙ (λ i. closings_before (kind i) s ((known i).closings)) in
    λ i. record { past = passes i; alias = alias i; last = last i; inner = inside i; closings = stay i }
