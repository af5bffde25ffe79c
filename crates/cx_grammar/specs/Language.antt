-- Languages over tokens of any type: which lists of tokens spell a value, and which are the front of a spelling.
use Rattle.std.specs.Prelude.{◌≡◌, ℕ, zero, suc, Bool, true, false, ◌&&◌, ◌||◌, List, [], ◌∷◌, ◌++◌, Option, Some, None, ◌⊎◌, if◌then◌else◌}

pub record Language (T A : Type 0) : Type 1 where
  -- the tokens spell the value
  pub spells : List T → A → Type 0
  -- the tokens are a front of a spelling
  pub begins : List T → Type 0
  -- by its marks some spelling goes no level deeper
  pub stays : Bool

-- ---- one token, which has a value of its own

pub record SpellsOne {T A : Type 0} (f : T → Option A) (ts : List T) (v : A) : Type 0 where
  pub token : T
  pub alone : ts ≡ token ∷ []
  pub fits : f token ≡ Some v

pub data BeginsOne {T A : Type 0} (f : T → Option A) (ts : List T) : Type 0 where
  nothing : ts ≡ [] → BeginsOne f ts
  whole : (v : A) → SpellsOne f ts v → BeginsOne f ts

abbrev pub one : {T A : Type 0} → (T → Option A) → Language T A
one f = record { spells = SpellsOne f; begins = BeginsOne f; stays = true }

-- ---- one part and then another

pub record SpellsBoth {T A B : Type 0} (g : Language T A) (h : Language T B) (ts : List T) (v : A × B) : Type 0 where
  pub front : List T
  pub back : List T
  pub cut : ts ≡ front ++ back
  pub first : g.spells front v.0
  pub second : h.spells back v.1

pub data BeginsBoth {T A B : Type 0} (g : Language T A) (h : Language T B) (ts : List T) : Type 0 where
  in_first : g.begins ts → BeginsBoth g h ts
  in_second : (front back : List T) (v : A) → ts ≡ front ++ back → g.spells front v → h.begins back → BeginsBoth g h ts

infixr 12 ◌>>◌
abbrev pub ◌>>◌ : {T A B : Type 0} → Language T A → Language T B → Language T (A × B)
g >> h = record { spells = SpellsBoth g h; begins = BeginsBoth g h; stays = g.stays && h.stays }

-- ---- a value made from another

pub record SpellsAs {T A B : Type 0} (f : A → B) (g : Language T A) (ts : List T) (w : B) : Type 0 where
  pub value : A
  pub made : w ≡ f value
  pub part : g.spells ts value

infixr 11 ◌<$>◌
abbrev pub ◌<$>◌ : {T A B : Type 0} → (A → B) → Language T A → Language T B
f <$> g = record { spells = SpellsAs f g; begins = g.begins; stays = g.stays }

-- ---- one of two. An alternative is absent where none of its spellings stays at the deepest level.

pub data BeginsPresent {T A : Type 0} (g : Language T A) (ts : List T) : Type 0 where
  none_yet : ts ≡ [] → BeginsPresent g ts
  some : g.stays ≡ true → g.begins ts → BeginsPresent g ts

abbrev pub present : {T A : Type 0} → Language T A → Language T A
present g = record { spells = g.spells; begins = BeginsPresent g; stays = g.stays }

abbrev pub either : {T A : Type 0} → Language T A → Language T A → Language T A
either g h = record { spells = λ ts v. g.spells ts v ⊎ h.spells ts v; begins = λ ts. g.begins ts ⊎ h.begins ts; stays = g.stays || h.stays }

infixr 9 ◌∥◌
abbrev pub ◌∥◌ : {T A : Type 0} → Language T A → Language T A → Language T A
g ∥ h = either (present g) (present h)

-- ---- nothing, which has a value of its own

abbrev pub empty : {T : Type 0} → Language T (Unit {0})
empty = record { spells = λ ts v. ts ≡ []; begins = λ ts. ts ≡ []; stays = true }

-- ---- a part that may be left out

abbrev pub maybe : {T A : Type 0} → Language T A → Language T (Option A)
maybe g = either ((λ _. None) <$> empty) (Some <$> present g)

-- ---- a part any number of times

abbrev pub SpellsMany : {T A : Type 0} → Language T A → List T → List A → Type 0
SpellsMany g ts [] = ts ≡ []
SpellsMany {T = T} g ts (v ∷ vs) = (front : List T) × (back : List T) × (ts ≡ front ++ back) × g.spells front v × SpellsMany g back vs

pub record BeginsMany {T A : Type 0} (g : Language T A) (ts : List T) : Type 0 where
  pub front : List T
  pub back : List T
  pub cut : ts ≡ front ++ back
  pub turns : List A
  pub whole : SpellsMany g front turns
  pub next : BeginsPresent g back

abbrev pub many : {T A : Type 0} → Language T A → Language T (List A)
many g = record { spells = SpellsMany g; begins = BeginsMany g; stays = true }

-- ---- a part so many times at most

abbrev pub joined : {A : Type 0} → A × List A → List A
joined p = p.0 ∷ p.1

-- one turn and then others, or none
abbrev pub turn_or : {T A : Type 0} → Language T A → Language T (List A) → Language T (List A) → Language T (List A)
turn_or g others last = either (joined <$> (present g >> others)) last

abbrev pub no_turn : {T A : Type 0} → Language T (List A)
no_turn = (λ _. []) <$> empty

abbrev pub upto : {T A : Type 0} → ℕ → Language T A → Language T (List A)
upto zero g = no_turn
upto (suc n) g = turn_or g (upto n g) no_turn

-- ---- a part whose value is such

pub record SpellsSuch {T A : Type 0} (p : A → Bool) (g : Language T A) (ts : List T) (v : A) : Type 0 where
  pub part : g.spells ts v
  pub such_a : p v ≡ true

abbrev pub such : {T A : Type 0} → (A → Bool) → Language T A → Language T A
such p g = record { spells = SpellsSuch p g; begins = g.begins; stays = g.stays }

-- ---- one part, and behind it, if its value is such, perhaps another

abbrev pub alone : {A B : Type 0} → A → A × Option B
alone a = (a, None)

abbrev pub along : {A B : Type 0} → A × B → A × Option B
along p = (p.0, Some p.1)

abbrev pub with_tail : {T A B : Type 0} → (A → Bool) → Language T A → Language T B → Language T (A × Option B)
with_tail p g h = either (alone <$> g) (along <$> (such p g >> present h))

-- ---- a part whose own tokens do not pass a test. The test is to stay passed when more tokens follow.

pub record SpellsUnless {T A : Type 0} (test : List T → Bool) (g : Language T A) (ts : List T) (v : A) : Type 0 where
  pub part : g.spells ts v
  pub clear : test ts ≡ false

pub record BeginsUnless {T A : Type 0} (test : List T → Bool) (g : Language T A) (ts : List T) : Type 0 where
  pub part : g.begins ts
  pub clear : test ts ≡ false

abbrev pub unless : {T A : Type 0} → (List T → Bool) → Language T A → Language T A
unless test g = record { spells = SpellsUnless test g; begins = BeginsUnless test g; stays = g.stays }

-- ---- a part with what its own tokens give, as the place from its first token to its last

pub record SpellsMeasured {T A M : Type 0} (f : List T → M) (g : Language T A) (ts : List T) (w : A × M) : Type 0 where
  pub part : g.spells ts w.0
  pub measure : w.1 ≡ f ts

abbrev pub measured : {T A M : Type 0} → (List T → M) → Language T A → Language T (A × M)
measured f g = record { spells = SpellsMeasured f g; begins = g.begins; stays = g.stays }

-- ---- a token that passes a test, before a part and behind it

abbrev pub passing : {T : Type 0} → (T → Bool) → T → Option (Unit {0})
passing p t = if p t then Some tt else None

abbrev pub the : {T : Type 0} → (T → Bool) → Language T (Unit {0})
the p = one (passing p)

infixr 13 ◌⊳◌
abbrev pub ◌⊳◌ : {T A : Type 0} → (T → Bool) → Language T A → Language T A
p ⊳ g = (λ (pair : _ × _). pair.1) <$> (the p >> g)

infixl 14 ◌⊲◌
abbrev pub ◌⊲◌ : {T A : Type 0} → Language T A → (T → Bool) → Language T A
g ⊲ p = (λ (pair : _ × _). pair.0) <$> (g >> the p)

-- ---- a part once or more, with a separator between each two: a, b, c

abbrev pub separated : {T A : Type 0} → (T → Bool) → Language T A → Language T (List A)
separated p g = joined <$> (g >> many (p ⊳ g))

-- ---- the same with perhaps a separator behind the last: a, b, c,

abbrev pub spells_others : {A : Type 0} → List A × Option (Unit {0}) → List A
spells_others p = p.0

abbrev pub others_trailed : {T A : Type 0} → (T → Bool) → Language T A → Language T (List A)
others_trailed p g = spells_others <$> (many (p ⊳ g) >> maybe (the p))

abbrev pub trailed : {T A : Type 0} → (T → Bool) → Language T A → Language T (List A)
trailed p g = joined <$> (g >> others_trailed p g)

-- ---- tokens each with a separator behind it, and then a part: a::b::c

abbrev pub names : {T A B : Type 0} → (T → Option A) → (T → Bool) → Language T B → Language T (List A × B)
names f p h = many (one f ⊲ p) >> h

-- ---- what is marked as one level deeper, where there is no such level

abbrev pub absent : {T A : Type 0} → Language T A
absent = record { spells = λ ts v. ⊥; begins = λ ts. ts ≡ []; stays = false }

-- and where there is one
abbrev pub there : {T A : Type 0} → Language T A → Language T A
there g = record { spells = g.spells; begins = g.begins; stays = true }
