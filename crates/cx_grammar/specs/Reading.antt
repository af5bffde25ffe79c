-- Readers: the grammar as functions on lists of tokens, with the test that decides at each choice. Each combinator has the name of that of the languages.
use Rattle.std.specs.Prelude.{ℕ, zero, suc, ◌-◌, Bool, false, not, ◌&&◌, if◌then◌else◌, List, [], ◌∷◌, ◌++◌, length, take, nat_le, Option, Some, None, ◌<◌, ◌≡◌}
use Rattle.cx_base.specs.declared.rule.Rule.TheVariants.{Syntax, Nesting}
use Rattle.cx_grammar.specs.Language.{passing, along, joined}
use Rattle.cx_grammar.specs.Exact.{Outcome, done, stop}

abbrev pub Reader : Type 0 → Type 0 → Type 0
Reader T A = List T → Outcome T A

-- what is read is never empty
pub record Shortens {T A : Type 0} (read : Reader T A) : Type 0 where
  pub at : (ts rest : List T) (v : A) → read ts ≡ done v rest → length rest < length ts

infixl 10 ◌>>=◌
abbrev pub ◌>>=◌ : {T A B : Type 0} → Outcome T A → (A → List T → Outcome T B) → Outcome T B
(done v rest) >>= f = f v rest
(stop rule left) >>= f = stop rule left

-- what is made of what is read
abbrev pub made : {T A B : Type 0} → (A → B) → Outcome T A → Outcome T B
made f (done v rest) = done (f v) rest
made f (stop rule left) = stop rule left

infixr 11 ◌<$>◌
abbrev pub ◌<$>◌ : {T A B : Type 0} → (A → B) → Reader T A → Reader T B
f <$> r = λ ts. made f (r ts)

infixr 12 ◌>>◌
abbrev pub ◌>>◌ : {T A B : Type 0} → Reader T A → Reader T B → Reader T (A × B)
r >> s = λ ts. r ts >>= (λ a rest. made (λ b. (a, b)) (s rest))

-- the next token is a fault
abbrev pub refuse : {T A : Type 0} → Reader T A
refuse ts = stop Syntax (length ts)

abbrev pub token_by : {T A : Type 0} → Option A → T → List T → Outcome T A
token_by (Some v) t ts = done v ts
token_by None t ts = refuse (t ∷ ts)

-- one token
abbrev pub token : {T A : Type 0} → (T → Option A) → Reader T A
token f [] = refuse []
token f (t ∷ ts) = token_by (f t) t ts

abbrev pub the : {T : Type 0} → (T → Bool) → Reader T (Unit {0})
the p = token (passing p)

infixr 13 ◌⊳◌
abbrev pub ◌⊳◌ : {T A : Type 0} → (T → Bool) → Reader T A → Reader T A
p ⊳ r = (λ (pair : _ × _). pair.1) <$> (the p >> r)

infixl 14 ◌⊲◌
abbrev pub ◌⊲◌ : {T A : Type 0} → Reader T A → (T → Bool) → Reader T A
r ⊲ p = (λ (pair : _ × _). pair.0) <$> (r >> the p)

-- the next token passes the test
abbrev pub sees : {T : Type 0} → (T → Bool) → List T → Bool
sees p [] = false
sees p (t ∷ ts) = p t

-- the reader that the next token's class chooses
abbrev pub by_class : {T C A : Type 0} → (T → C) → (C → Reader T A) → Reader T A
by_class class f [] = refuse []
by_class class f (t ∷ ts) = f (class t) (t ∷ ts)

-- what goes a level deeper, where there may be none
abbrev pub guarded : {T A : Type 0} → Bool → Reader T A → Reader T A
guarded room r ts = if room then r ts else stop Nesting (length ts)

abbrev pub maybe_if : {T A : Type 0} → (T → Bool) → Reader T A → Reader T (Option A)
maybe_if p r ts = if sees p ts then made Some (r ts) else done None ts

-- turns while the tokens pass a test, so many at most, and then what is last
abbrev pub turns_then : {T A : Type 0} → (List T → Bool) → Reader T A → Reader T (List A) → ℕ → Reader T (List A)
turns_then test read last zero ts = last ts
turns_then test read last (suc k) ts = if test ts then read ts >>= (λ v rest. made (λ vs. v ∷ vs) (turns_then test read last k rest)) else last ts

abbrev pub many_from : {T A : Type 0} → (List T → Bool) → Reader T A → ℕ → Reader T (List A)
many_from test read = turns_then test read (λ ts. done [] ts)

-- each turn takes a token, so that as many turns as tokens are enough
unfoldable pub many_of : {T A : Type 0} → (T → Bool) → Reader T A → Reader T (List A)
many_of p read ts = many_from (sees p) read (length ts) ts

-- so many turns at most
abbrev pub upto_of : {T A : Type 0} → ℕ → (T → Bool) → Reader T A → Reader T (List A)
upto_of n p read = many_from (sees p) read n

abbrev pub such_of : {T A : Type 0} → (A → Bool) → Reader T A → Reader T A
such_of p r ts = r ts >>= (λ v rest. if p v then done v rest else refuse rest)

-- a part, and behind it, where the next token is such, another
abbrev pub tail_if : {T A B : Type 0} → (T → Bool) → Reader T A → Reader T B → Reader T (A × Option B)
tail_if p r s = λ ts. r ts >>= (λ v rest. if sees p rest then made along (made (λ b. (v, b)) (s rest)) else done (v, None) rest)

-- the tokens that were taken from the first list where the second is left
abbrev pub taken : {T : Type 0} → List T → List T → List T
taken ts rest = take (length ts - length rest) ts

abbrev pub measured_by : {T A M : Type 0} → (List T → M) → Reader T A → Reader T (A × M)
measured_by f r ts = r ts >>= (λ v rest. done (v, f (taken ts rest)) rest)

-- A reader that is refused at the token from which so many are left, if it came so far.
abbrev pub refused_at : {T A : Type 0} → Option ℕ → Outcome T A → Outcome T A
refused_at None o = o
refused_at (Some left) (done v rest) = if nat_le left (length rest) then done v rest else stop Syntax left
refused_at (Some left) (stop rule l) = if nat_le l left then stop Syntax left else stop rule l

-- the test's first token, as a reader finds it
abbrev pub unless_at : {T A : Type 0} → (List T → Option ℕ) → Reader T A → Reader T A
unless_at refusal r ts = refused_at (refusal ts) (r ts)

-- turns while the tokens pass a test
unfoldable pub many_when : {T A : Type 0} → (List T → Bool) → Reader T A → Reader T (List A)
many_when test read ts = many_from test read (length ts) ts

abbrev pub separated_by : {T A : Type 0} → (T → Bool) → Reader T A → Reader T (List A)
separated_by p r = joined <$> (r >> many_of p (p ⊳ r))

-- the next token is of the first set and the one behind it of the second
abbrev pub sees_two : {T : Type 0} → (T → Bool) → (T → Bool) → List T → Bool
sees_two p s [] = false
sees_two p s (t ∷ ts) = p t && sees s ts

-- perhaps a separator
abbrev pub trail_of : {T A : Type 0} → (T → Bool) → Reader T (List A)
trail_of p = (λ _. []) <$> maybe_if p (the p)

-- separated items (each with its separator before it) and perhaps a separator behind the last: one before a token of s has an item behind it
unfoldable pub others_by : {T A : Type 0} → (T → Bool) → (T → Bool) → Reader T A → Reader T (List A)
others_by p s item ts = turns_then (sees_two p s) item (trail_of p) (length ts) ts

-- the same behind items that were read before
abbrev pub others_behind : {T A : Type 0} → (T → Bool) → (T → Bool) → Reader T A → List A → Reader T (List A)
others_behind p s item first ts = made (λ found. first ++ found) (others_by p s item ts)

abbrev pub others_trailed_by : {T A : Type 0} → (T → Bool) → (T → Bool) → Reader T A → Reader T (List A)
others_trailed_by p s r = others_by p s (p ⊳ r)

abbrev pub trailed_by : {T A : Type 0} → (T → Bool) → (T → Bool) → Reader T A → Reader T (List A)
trailed_by p s r = joined <$> (r >> others_trailed_by p s r)

-- The part behind the names, which begins with a token of s. A name (of m) that does not begin it may have a separator behind it: then the fault is the next token.
abbrev pub last_name : {T B : Type 0} → (T → Bool) → (T → Bool) → Reader T B → Reader T B
last_name m s r [] = r []
last_name m s r (t ∷ ts) = if m t && not (s t) then refuse ts else r (t ∷ ts)

abbrev pub names_by : {T A B : Type 0} → (T → Option A) → (T → Bool) → (T → Bool) → (T → Bool) → Reader T B → Reader T (List A × B)
names_by f p m s r = many_when (sees_two m p) (token f ⊲ p) >> last_name m s r
