-- A part with what may follow its value, and turns each of which depends on the one before it: as languages and as readers.
use Rattle.std.specs.Prelude.{◌≡◌, ℕ, zero, suc, Bool, true, List, [], ◌∷◌, ◌++◌, length, if◌then◌else◌}
use Rattle.cx_grammar.specs.Language.{Language, BeginsPresent}
use Rattle.cx_grammar.specs.Exact.{done}
use Rattle.cx_grammar.specs.Reading.{Reader, made, sees, ◌>>=◌}

-- ---- a part, and then one that its value allows

pub record SpellsThen {T A B : Type 0} (g : Language T A) (h : A → Language T B) (ts : List T) (v : A × B) : Type 0 where
  pub front : List T
  pub back : List T
  pub cut : ts ≡ front ++ back
  pub first : g.spells front v.0
  pub second : (h v.0).spells back v.1

pub data BeginsThen {T A B : Type 0} (g : Language T A) (h : A → Language T B) (ts : List T) : Type 0 where
  then_first : g.begins ts → BeginsThen g h ts
  then_second : (front back : List T) (v : A) → ts ≡ front ++ back → g.spells front v → (h v).begins back → BeginsThen g h ts

-- what follows may be nothing
abbrev pub then_by : {T A B : Type 0} → Language T A → (A → Language T B) → Language T (A × B)
then_by g h = record { spells = SpellsThen g h; begins = BeginsThen g h; stays = g.stays }

-- ---- turns, any number, each of which may depend on a flag of the one before it

abbrev pub SpellsLinks : {T B : Type 0} → (Bool → Language T B) → (B → Bool) → Bool → List T → List B → Type 0
SpellsLinks h flag b ts [] = ts ≡ []
SpellsLinks {T = T} h flag b ts (v ∷ vs) = (front : List T) × (back : List T) × (ts ≡ front ++ back) × (h b).spells front v × SpellsLinks h flag (flag v) back vs

-- the flag behind the turns
abbrev pub flag_behind : {B : Type 0} → (B → Bool) → Bool → List B → Bool
flag_behind flag b [] = b
flag_behind flag b (v ∷ vs) = flag_behind flag (flag v) vs

pub record BeginsLinks {T B : Type 0} (h : Bool → Language T B) (flag : B → Bool) (b : Bool) (ts : List T) : Type 0 where
  pub front : List T
  pub back : List T
  pub cut : ts ≡ front ++ back
  pub turns : List B
  pub whole : SpellsLinks h flag b front turns
  pub next : BeginsPresent (h (flag_behind flag b turns)) back

abbrev pub links : {T B : Type 0} → (Bool → Language T B) → (B → Bool) → Bool → Language T (List B)
links h flag b = record { spells = SpellsLinks h flag b; begins = BeginsLinks h flag b; stays = true }

-- ---- readers

abbrev pub read_then : {T A B : Type 0} → Reader T A → (A → Reader T B) → Reader T (A × B)
read_then r s ts = r ts >>= (λ a rest. made (λ b. (a, b)) (s a rest))

-- turns while the next token is of the set that the flag allows
abbrev pub links_from : {T B : Type 0} → (Bool → T → Bool) → (Bool → Reader T B) → (B → Bool) → ℕ → Bool → Reader T (List B)
links_from test read flag zero b ts = done [] ts
links_from test read flag (suc k) b ts = if sees (test b) ts then read b ts >>= (λ v rest. made (λ vs. v ∷ vs) (links_from test read flag k (flag v) rest)) else done [] ts

-- each turn takes a token, so that as many turns as tokens are enough
unfoldable pub links_of : {T B : Type 0} → (Bool → T → Bool) → (Bool → Reader T B) → (B → Bool) → Bool → Reader T (List B)
links_of test read flag b ts = links_from test read flag (length ts) b ts
