-- Which functions a call may choose, and which one it does ([over.match.viable], [over.match.best]).
use Rattle.std.specs.Prelude.{◌≡◌, ◌⊎◌, ℕ, zero, suc, ◌==◌, Bool, true, false, not, ◌&&◌, ◌||◌, List, [], ◌∷◌, Option, None, Some, option_map, option_and_then, if◌then◌else◌}
use Rattle.std.specs.List.{find, list_any}
use Rattle.cx_type_defs.specs.declared.ids.ClassId.{ClassId}
use Rattle.cx_type_defs.specs.declared.ids.FuncId.{FuncId}
use Rattle.cx_type_defs.specs.Same.{Form, Reference}
use Rattle.cx_lookup.specs.Ranks.{Argument, Conversion, World, conversion, decayed, not_by_user, derived}
use Rattle.cx_lookup.specs.Better.{Converted, better}

-- how a function takes the first argument
pub data First : Type 0 where
  Parameter : First  -- args any other
  Object : Form → First  -- it is the object of a member function: of this class, const where the function is
  Ignored : First  -- a static member function passes the object over

-- a function: what it takes, and how many of its last parameters have default arguments that were walked
pub record Signature : Type 0 where
  pub id : FuncId
  pub first : First
  pub parameters : List Form
  pub defaults : ℕ

-- how each argument is converted; an argument that is passed over isn't
abbrev pub Conversions : Type 0
Conversions = List (Option Converted)

abbrev pub to_type : Form → Option Conversion → Option (Option Converted)
to_type f c = option_map (λ (by : Conversion). Some (record { by = by; to = f })) c

abbrev pub led : Option (Option Converted) → Option Conversions → Option Conversions
led c cs = option_and_then (λ x. option_map (λ xs. x ∷ xs) cs) c

-- there is a parameter for each argument, and the parameters that are left have default arguments
abbrev pub all_converted : World → List Argument → List Form → ℕ → Option Conversions
all_converted w [] [] n = Some []
all_converted w [] (f ∷ fs) zero = None
all_converted w [] (f ∷ fs) (suc n) = all_converted w [] fs n
all_converted w (a ∷ rest) [] n = None
all_converted w (a ∷ rest) (f ∷ fs) n = led (to_type f (conversion w a f)) (all_converted w rest fs n)

-- the object binds though it may be no lvalue, and no user converts it ([over.match.funcs])
abbrev pub as_object : Argument → Argument
as_object a = record a { lvalue = true; null = false }

abbrev pub first_converted : World → First → Argument → Option (Option Converted)
first_converted w Ignored a = Some None
first_converted w (Object f) a = to_type (Reference f) (not_by_user w.types (as_object a) (Reference f))
first_converted w Parameter a = None

abbrev pub conversions : World → First → List Argument → List Form → ℕ → Option Conversions
conversions w Parameter args fs n = all_converted w args fs n
conversions w first [] fs n = None
conversions w first (a ∷ rest) fs n = led (first_converted w first a) (all_converted w rest fs n)

-- a function that may be called, with the conversions of the arguments
pub record Viable : Type 0 where
  pub id : FuncId
  pub by : Conversions

abbrev pub with_viable : FuncId → Option Conversions → List Viable → List Viable
with_viable f None vs = vs
with_viable f (Some cs) vs = record { id = f; by = cs } ∷ vs

abbrev pub viable : World → List Argument → List Signature → List Viable
viable w args [] = []
viable w args (s ∷ ss) = with_viable s.id (conversions w s.first args s.parameters s.defaults) (viable w args ss)

-- ---- the best viable function

abbrev pub better_for : (ClassId → ClassId → Bool) → Argument → Option Converted → Option Converted → Bool
better_for d a (Some c) (Some e) = better d (decayed a.ty) c e
better_for d a _ _ = false

-- better for one argument
abbrev pub better_once : (ClassId → ClassId → Bool) → List Argument → Conversions → Conversions → Bool
better_once d (a ∷ rest) (c ∷ cs) (e ∷ es) = better_for d a c e || better_once d rest cs es
better_once d _ _ _ = false

-- worse for no argument, and better for one
abbrev pub is_better : (ClassId → ClassId → Bool) → List Argument → Conversions → Conversions → Bool
is_better d args cs es = not (better_once d args es cs) && better_once d args cs es

abbrev pub Among : {X : Type 0} → X → List X → Type 0
Among v [] = ⊥
Among v (x ∷ xs) = (v ≡ x) ⊎ Among v xs

-- one of all, better than every other one
pub record IsBest (d : ClassId → ClassId → Bool) (args : List Argument) (vs : List Viable) (v : Viable) : Type 0 where
  pub viable : Among v vs
  pub beats : (o : Viable) → Among o vs → (o.id.0 == v.id.0) ≡ false → is_better d args v.by o.by ≡ true

-- the function that is called; None where none is best, also where none is viable
abbrev pub beats : (ClassId → ClassId → Bool) → List Argument → Viable → Viable → Bool
beats d args v o = (o.id.0 == v.id.0) || is_better d args v.by o.by

abbrev pub best_of : (ClassId → ClassId → Bool) → List Argument → List Viable → Option Viable
best_of d args vs = find (λ v. not (list_any (λ o. not (beats d args v o)) vs)) vs

-- what a call chooses
pub data Choice : Type 0 where
  Chosen : FuncId → Choice
  NoMatch : Choice  -- none is viable
  Ambiguous : Choice  -- none is better than every other

abbrev pub of_best : Option Viable → Choice
of_best None = Ambiguous
of_best (Some v) = Chosen v.id

abbrev pub choice_of : (ClassId → ClassId → Bool) → List Argument → List Viable → Choice
choice_of d args [] = NoMatch
choice_of d args (v ∷ vs) = of_best (best_of d args (v ∷ vs))

abbrev pub choice : World → List Signature → List Argument → Choice
choice w ss args = choice_of (derived w.types) args (viable w args ss)

-- ---- lists as sets, and a walk over one

-- the same ones, in whatever order
pub record HaveTheSame {X : Type 0} (xs ys : List X) : Type 0 where
  pub there : (x : X) → Among x xs → Among x ys
  pub back : (x : X) → Among x ys → Among x xs

-- numbers tell the functions apart
abbrev pub AreApart : List Viable → Type 0
AreApart vs = (v o : Viable) → Among v vs → Among o vs → (v.id.0 == o.id.0) ≡ true → v ≡ o

-- keeps one, and goes to the next where it isn't better than that
abbrev pub last_kept : (ClassId → ClassId → Bool) → List Argument → Viable → List Viable → Viable
last_kept d args v [] = v
last_kept d args v (o ∷ os) = last_kept d args (if is_better d args v.by o.by then v else o) os

abbrev pub where_best : (ClassId → ClassId → Bool) → List Argument → List Viable → Viable → Option Viable
where_best d args vs v = if list_any (λ o. not (beats d args v o)) vs then None else Some v

-- the last one kept, where it is better than every other
abbrev pub walked : (ClassId → ClassId → Bool) → List Argument → List Viable → Option Viable
walked d args [] = None
walked d args (v ∷ vs) = where_best d args (v ∷ vs) (last_kept d args v vs)
