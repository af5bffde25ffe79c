-- Which classes lead to a namespace, and which scope answers.
use Rattle.std.proofs.Common.{◌≡◌, ℕ, zero, suc, ◌+◌, ◌<◌, ◌≤◌, ◌⊎◌, inl, inr, Bool, true, false, List, [], ◌∷◌, ◌++◌, length, Option, Some, None, refl, sym, ap, subst, ◌∙◌, arith, if◌then◌else◌, ◌≢◌, cond}
use Rattle.std.specs.Prelude.{◌==◌, option_and_then, slice_get}
use Rattle.std.specs.List.{flat_map}
use Rattle.std.specs.Option.{option_map_or}
use Rattle.std.specs.Map.{lookup}
use Rattle.std.proofs.lemmas.Bool.{eqb-true}
use Rattle.std.proofs.lemmas.Cmp.{nat_eq_equiv}
use Rattle.cx_type_defs.specs.declared.ids.ClassId.{ClassId}
use Rattle.cx_type_defs.specs.declared.ids.TypeId.{TypeId}
use Rattle.cx_type_defs.specs.declared.kind.TypeRow.{TypeRow}
use Rattle.cx_type_defs.specs.declared.kind.TypeKind.{TypeKind}
use Rattle.cx_type_defs.specs.declared.kind.TypeKind.TheVariants as type
use Rattle.cx_type_defs.specs.Tables.{Tables}
use Rattle.cx_type_defs.specs.Levels.{most_steps, part_of, led_to}
use Rattle.cx_type_defs.specs.Sound.{Sound}
use Rattle.cx_type_defs.proofs.Chains.{chain-short}
use Rattle.cx_scopes.specs.declared.kinds.Entity.{Entity}
use Rattle.cx_scopes.specs.declared.kinds.Sought.{Sought}
use Rattle.cx_scopes.specs.declared.entered.Entered.{Entered}
use Rattle.cx_scopes.specs.declared.kept.ClassScope.{ClassScope}
use Rattle.cx_scopes.specs.Scopes.{ScopeTables, global, bases_of}
use Rattle.cx_scopes.specs.Lookup.{or_else, said_by, said_in, said_from, answer_of, levels_of, find_as_answer, find_in_as_answer}
use Rattle.cx_scopes.specs.Arguments.{class_space, class_spaces, kind_spaces, listed, type_spaces}
use Rattle.cx_scopes.specs.Reaching.{Among, Comes, LeadsTo, Reaches, SayNothing, named_spaces, through}

-- the innermost scope that says something

else-some : (a rest : Option (List Entity)) → a ≢ Some [] → or_else a rest ≡ a
else-some None rest h = refl
else-some (Some []) rest h = absurd (h refl)
else-some (Some (e ∷ es)) rest h = refl

from-innermost : (s : ScopeTables) (sought : Sought) (name : List ℕ) (inner : List Entered) (x : Entered) (outer : List Entered) → SayNothing s sought name inner → said_by s sought x.scope x name ≢ Some []
    → said_from s sought (inner ++ x ∷ outer) name ≡ said_by s sought x.scope x name
from-innermost s sought name [] x outer h k = else-some (said_by s sought x.scope x name) (said_from s sought outer name) k
from-innermost s sought name (y ∷ inner) x outer h k =
    ap (λ o. or_else o (said_from s sought (inner ++ x ∷ outer) name)) h.0 ∙ from-innermost s sought name inner x outer h.1 k

pub found-innermost : (s : ScopeTables) (sought : Sought) (name : List ℕ) (inner : List Entered) (x : Entered) (outer : List Entered) → s.entered ≡ inner ++ x ∷ outer → SayNothing s sought name inner
    → said_by s sought x.scope x name ≢ Some [] → find_as_answer s sought name ≡ answer_of (said_by s sought x.scope x name)
found-innermost s sought name inner x outer e h k = ap (λ l. answer_of (said_from s sought l name)) e ∙ ap answer_of (from-innermost s sought name inner x outer h k)

from-global : (s : ScopeTables) (sought : Sought) (name : List ℕ) (entered : List Entered) → SayNothing s sought name entered → said_from s sought entered name ≡ said_in s sought global name
from-global s sought name [] h = refl
from-global s sought name (y ∷ entered) h = ap (λ o. or_else o (said_from s sought entered name)) h.0 ∙ from-global s sought name entered h.1

pub found-global : (s : ScopeTables) (sought : Sought) (name : List ℕ) → SayNothing s sought name s.entered → find_as_answer s sought name ≡ find_in_as_answer s sought global name
found-global s sought name h = ap answer_of (from-global s sought name s.entered h)

-- the classes that one comes to by bases

module _ {A : Type 0} where
  pub among-front : (x : A) (xs ys : List A) → Among x xs → Among x (xs ++ ys)
  among-front x [] ys h = absurd h
  among-front x (z ∷ xs) ys h = elim h as (λ _. Among x (z ∷ (xs ++ ys))) [ inl e ↦ inl e | inr r ↦ inr (among-front x xs ys r) ]

  pub among-back : (x : A) (xs ys : List A) → Among x ys → Among x (xs ++ ys)
  among-back x [] ys h = h
  among-back x (z ∷ xs) ys h = inr (among-back x xs ys h)

  pub among-either : (x : A) (xs ys : List A) → Among x (xs ++ ys) → Among x xs ⊎ Among x ys
  among-either x [] ys h = inr h
  among-either x (z ∷ xs) ys h = elim h as (λ _. Among x (z ∷ xs) ⊎ Among x ys) [
    | inl e ↦ inl (inl e)
    | inr r ↦ elim (among-either x xs ys r) as (λ _. Among x (z ∷ xs) ⊎ Among x ys) [ inl a ↦ inl (inr a) | inr b ↦ inr b ]
  ]

module _ {A B : Type 0} (f : A → List B) where
  among-mapped : (y : B) (x : A) (xs : List A) → Among x xs → Among y (f x) → Among y (flat_map f xs)
  among-mapped y x [] h k = absurd h
  among-mapped y x (z ∷ xs) h k = elim h as (λ _. Among y (f z ++ flat_map f xs)) [
    | inl e ↦ among-front y (f z) (flat_map f xs) (subst (λ w. Among y (f w)) e k)
    | inr r ↦ among-back y (f z) (flat_map f xs) (among-mapped y x xs r k)
  ]

  among-origin : (y : B) (xs : List A) → Among y (flat_map f xs) → (x : A) × Among x xs × Among y (f x)
  among-origin y [] h = absurd h
  among-origin y (z ∷ xs) h = elim (among-either y (f z) (flat_map f xs) h) as (λ _. (x : A) × Among x (z ∷ xs) × Among y (f x)) [
    | inl a ↦ (z, inl refl, a)
    | inr b ↦ let r = among-origin y xs b in (r.0, inr r.1, r.2)
  ]

listed-is : (o : Option ℕ) (n : ℕ) → Among n (listed o) → o ≡ Some n
listed-is None n h = absurd h
listed-is (Some m) n h = elim h as (λ _. Some m ≡ Some n) [ inl e ↦ ap (λ i. Some i) (sym e) | inr r ↦ absurd r ]

is-listed : (o : Option ℕ) (n : ℕ) → o ≡ Some n → Among n (listed o)
is-listed None n h = cc
is-listed (Some m) n h = inl (let e : n ≡ m = cc in e)

-- each namespace of a class is around a class that it reaches
pub spaces-reached : (s : ScopeTables) (t : Tables) (levels : ℕ) (c : ClassId) (n : ℕ) → Among n (class_spaces s t levels c) → Comes s t c n
unfolding class_spaces
spaces-reached s t zero c n h = ([], c, refl, listed-is (class_space s t c) n h)
spaces-reached s t (suc levels) c n h = elim (among-either n (listed (class_space s t c)) (flat_map (class_spaces s t levels) (bases_of s c)) h) as (λ _. Comes s t c n) [
  | inl a ↦ ([], c, refl, listed-is (class_space s t c) n a)
  | inr b ↦
      let r = among-origin (class_spaces s t levels) n (bases_of s c) b in
      let k = spaces-reached s t levels r.0 n r.2 in
      (r.0 ∷ k.0, k.1, (r.1, k.2), k.3)
]

-- and where it reaches one by few enough bases, the namespace around that one is among them
spaces-within : (s : ScopeTables) (t : Tables) (levels : ℕ) (c : ClassId) (path : List ClassId) (d : ClassId) (n : ℕ) → length path ≤ levels → Reaches s c path d → class_space s t d ≡ Some n → Among n (class_spaces s t levels c)
unfolding class_spaces
spaces-within s t zero c [] d n h r k = is-listed (class_space s t c) n (ap (class_space s t) r ∙ k)
spaces-within s t zero c (b ∷ path) d n h r k = absurd (omega arith)
spaces-within s t (suc levels) c [] d n h r k =
    among-front n (listed (class_space s t c)) (flat_map (class_spaces s t levels) (bases_of s c)) (is-listed (class_space s t c) n (ap (class_space s t) r ∙ k))
spaces-within s t (suc levels) c (b ∷ path) d n h r k =
    among-back n (listed (class_space s t c)) (flat_map (class_spaces s t levels) (bases_of s c))
    (among-mapped (class_spaces s t levels) n b (bases_of s c) r.0 (spaces-within s t levels b path d n (omega arith) r.1 k))

-- a way by bases needs no more steps than there are classes that are kept

without : ClassId → List ClassId → List ClassId
without c [] = []
without c (k ∷ ks) = if c.0 == k.0 then without c ks else k ∷ without c ks

length-without : (c : ClassId) (ks : List ClassId) → length (without c ks) ≤ length ks
unfolding without
length-without c [] = omega arith
length-without c (k ∷ ks) = by (c.0 == k.0) (length-without c ks)
  where
    by : (b : Bool) → length (without c ks) ≤ length ks → length (if b then without c ks else k ∷ without c ks) ≤ length (k ∷ ks)
    by true h = omega arith
    by false h = omega arith

fewer-without : (c : ClassId) (ks : List ClassId) → Among c ks → length (without c ks) < length ks
unfolding without
fewer-without c [] h = absurd h
fewer-without c (k ∷ ks) h = by (c.0 == k.0) refl (fewer-without c ks) h
  where
    by : (b : Bool) → (c.0 == k.0) ≡ b → (Among c ks → length (without c ks) < length ks) → Among c (k ∷ ks) → length (if b then without c ks else k ∷ without c ks) < length (k ∷ ks)
    by true e rest j = let z = length-without c ks in omega arith
    by false e rest j = elim j as (λ _. length (k ∷ without c ks) < length (k ∷ ks)) [
      | inl same ↦ let t : (c.0 == k.0) ≡ true = ap (λ (d : ClassId). c.0 == d.0) (sym same) ∙ nat_eq_equiv.refl c.0 in let z : true ≡ false = sym t ∙ e in cc
      | inr r ↦ let z = rest r in omega arith
    ]

among-without : (c x : ClassId) (ks : List ClassId) → (c.0 == x.0) ≡ false → Among x ks → Among x (without c ks)
unfolding without
among-without c x [] e h = absurd h
among-without c x (k ∷ ks) e h = by (c.0 == k.0) refl (among-without c x ks e) h
  where
    by : (b : Bool) → (c.0 == k.0) ≡ b → (Among x ks → Among x (without c ks)) → Among x (k ∷ ks) → Among x (if b then without c ks else k ∷ without c ks)
    by true f rest j = elim j as (λ _. Among x (without c ks)) [
      | inl same ↦ let t : (c.0 == x.0) ≡ true = ap (λ (d : ClassId). c.0 == d.0) same ∙ f in let z : true ≡ false = sym t ∙ e in cc
      | inr r ↦ rest r
    ]
    by false f rest j = elim j as (λ _. Among x (k ∷ without c ks)) [ inl same ↦ inl same | inr r ↦ inr (rest r) ]

-- each class on the way that a step leads on from is one of these
abbrev From : List ClassId → ClassId → List ClassId → Type 0
From ks c [] = Unit {0}
From ks c (b ∷ path) = Among c ks × From ks b path

same-class : (c x : ClassId) → c.0 ≡ x.0 → c ≡ x
same-class c x h = λ i. record { 0 = h i }

module _ (s : ScopeTables) (c d : ClassId) (ks : List ClassId) where
  abbrev Rest : Type 0
  Rest = (b : ClassId) × (path : List ClassId) × Among b (bases_of s c) × Reaches s b path d × From (without c ks) b path

  -- the way passes the class, or goes on from where it passes it for the last time
  after : (x : ClassId) (path : List ClassId) → Reaches s x path d → From ks x path → From (without c ks) x path ⊎ Rest
  after x [] r f = inl tt
  after x (b ∷ path) r f = elim (after b path r.1 f.1) as (λ _. From (without c ks) x (b ∷ path) ⊎ Rest) [
    | inl rest ↦ by (c.0 == x.0) refl rest
    | inr found ↦ inr found
  ]
    where
      by : (e : Bool) → (c.0 == x.0) ≡ e → From (without c ks) b path → From (without c ks) x (b ∷ path) ⊎ Rest
      by true e rest =
          inr (b, path, subst (λ (y : ClassId). Among b (bases_of s y)) (sym (same-class c x (eqb-true c.0 x.0 e))) r.0, r.1, rest)
      by false e rest = inl (among-without c x ks e f.0, rest)

abbrev Short : ScopeTables → ClassId → ClassId → ℕ → Type 0
Short s c d n = (path : List ClassId) × (length path ≤ n) × Reaches s c path d

one-more : (s : ScopeTables) (c d : ClassId) (n : ℕ) (b : ClassId) → Among b (bases_of s c) → Short s b d n → Short s c d (suc n)
one-more s c d n b base k = (b ∷ k.0, let w = k.1 in omega arith, (base, k.2))

shorter : (s : ScopeTables) (n : ℕ) (ks : List ClassId) → length ks ≤ n → (c d : ClassId) (path : List ClassId) → Reaches s c path d → From ks c path → Short s c d n
shorter s n ks h c d [] r f = ([], omega arith, r)
shorter s zero ks h c d (b ∷ path) r f = let z = fewer-without c ks f.0 in absurd (omega arith)
shorter s (suc n) ks h c d (b ∷ path) r f =
    let z = fewer-without c ks f.0 in
    let few : length (without c ks) ≤ n = omega arith in
    elim (after s c d ks b path r.1 f.1) as (λ _. Short s c d (suc n)) [
      | inl rest ↦ one-more s c d n b r.0 (shorter s n (without c ks) few b d path r.1 rest)
      | inr found ↦ one-more s c d n found.0 found.2 (shorter s n (without c ks) few found.0 d found.1 found.3 found.4)
    ]

-- a class with bases is kept
kept-classes : List (ClassId × ClassScope) → List ClassId
kept-classes [] = []
kept-classes (x ∷ xs) = x.0 ∷ kept-classes xs

length-kept : (xs : List (ClassId × ClassScope)) → length (kept-classes xs) ≡ length xs
unfolding kept-classes
length-kept [] = refl
length-kept (x ∷ xs) = ap suc (length-kept xs)

kept-among : (xs : List (ClassId × ClassScope)) (c b : ClassId) → Among b (option_map_or (λ (k : ClassScope). k.bases) (lookup (λ (d : ClassId). c.0 == d.0) xs) []) → Among c (kept-classes xs)
unfolding kept-classes
kept-among [] c b h = absurd h
kept-among (x ∷ xs) c b h = by (c.0 == x.0.0) refl (kept-among xs c b) h
  where
    by : (e : Bool) → (c.0 == x.0.0) ≡ e → (Among b (option_map_or (λ (k : ClassScope). k.bases) (lookup (λ (d : ClassId). c.0 == d.0) xs) []) → Among c (kept-classes xs)) → Among b (option_map_or (λ (k : ClassScope). k.bases) (cond e (Some x.1) (lookup (λ (d : ClassId). c.0 == d.0) xs)) []) → Among c (x.0 ∷ kept-classes xs)
    by true e rest j = inl (same-class c x.0 (eqb-true c.0 x.0.0 e))
    by false e rest j = inr (rest j)

from-kept : (s : ScopeTables) (c : ClassId) (path : List ClassId) (d : ClassId) → Reaches s c path d → From (kept-classes s.classes) c path
from-kept s c [] d r = tt
from-kept s c (b ∷ path) d r = (kept-among s.classes c b r.0, from-kept s b path d r.1)

-- the namespace around each class that it reaches is one of a class's
pub reached-spaces : (s : ScopeTables) (t : Tables) (c : ClassId) (path : List ClassId) (d : ClassId) (n : ℕ) → Reaches s c path d → class_space s t d ≡ Some n → Among n (class_spaces s t (levels_of s) c)
reached-spaces s t c path d n r k =
    let z = length-kept s.classes in
    let q = shorter s (length s.classes) (kept-classes s.classes) (omega arith) c d path r (from-kept s c path d r) in
    spaces-within s t (levels_of s) c q.0 d n q.1 q.2 k

-- the types that a chain of pointers and arrays leads to

at-end : (s : ScopeTables) (t : Tables) (below : TypeId → List ℕ) (k : TypeKind) → through k ≡ None → kind_spaces s t below k ≡ named_spaces s t k
at-end s t below (type.Class c) h = refl
at-end s t below (type.Enum e) h = refl
at-end s t below (type.Pointer to) h = cc
at-end s t below (type.Array of n) h = cc
at-end s t below type.Void h = refl
at-end s t below type.Nullptr h = refl
at-end s t below (type.Int ty) h = refl
at-end s t below (type.Reference to) h = refl

on-way : (s : ScopeTables) (t : Tables) (below : TypeId → List ℕ) (k : TypeKind) (to : TypeId) → through k ≡ Some to → kind_spaces s t below k ≡ below to
on-way s t below (type.Class c) to h = cc
on-way s t below (type.Enum e) to h = cc
on-way s t below (type.Pointer p) to h = ap below (let e : p ≡ to = cc in e)
on-way s t below (type.Array of n) to h = ap below (let e : of ≡ to = cc in e)
on-way s t below type.Void to h = cc
on-way s t below type.Nullptr to h = cc
on-way s t below (type.Int ty) to h = cc
on-way s t below (type.Reference p) to h = cc

row-given : (o : Option TypeRow) (to : TypeId) → option_and_then (λ (r : TypeRow). through r.kind) o ≡ Some to → (r : TypeRow) × (o ≡ Some r) × (through r.kind ≡ Some to)
row-given None to h = cc
row-given (Some r) to h = (r, refl, h)

chain-spaces : (s : ScopeTables) (t : Tables) (steps levels : ℕ) (id last : TypeId) (r : TypeRow) → steps < levels → LeadsTo t steps id last → slice_get t.rows last.0 ≡ Some r → through r.kind ≡ None → type_spaces s t levels id ≡ named_spaces s t r.kind
unfolding type_spaces
chain-spaces s t steps zero id last r h way at end = absurd (omega arith)
chain-spaces s t zero (suc m) id last r h way at end =
    ap (λ o. option_map_or (λ (q : TypeRow). kind_spaces s t (type_spaces s t m) q.kind) o []) (ap (λ (i : TypeId). slice_get t.rows i.0) way ∙ at) ∙ at-end s t (type_spaces s t m) r.kind end
chain-spaces s t (suc n) (suc m) id last r h way at end =
    let q = row-given (slice_get t.rows id.0) way.0 way.1 in
    ap (λ o. option_map_or (λ (q : TypeRow). kind_spaces s t (type_spaces s t m) q.kind) o []) q.1 ∙ on-way s t (type_spaces s t m) q.0.kind way.0 q.2
    ∙ chain-spaces s t n m way.0 last r (omega arith) way.2 at end

part-through : (k : TypeKind) (to : TypeId) → through k ≡ Some to → part_of k ≡ Some to
part-through (type.Class c) to h = cc
part-through (type.Enum e) to h = cc
part-through (type.Pointer p) to h = h
part-through (type.Array of n) to h = h
part-through type.Void to h = cc
part-through type.Nullptr to h = cc
part-through (type.Int ty) to h = cc
part-through (type.Reference p) to h = cc

chain-led : (t : Tables) (steps : ℕ) (id last : TypeId) → LeadsTo t steps id last → led_to t steps id ≡ Some last
unfolding led_to
chain-led t zero id last way = ap (λ i. Some i) way
chain-led t (suc n) id last way =
    let q = row-given (slice_get t.rows id.0) way.0 way.1 in
    ap (option_and_then (led_to t n)) (ap (option_and_then (λ (r : TypeRow). part_of r.kind)) q.1 ∙ part-through q.0.kind way.0 q.2) ∙ chain-led t n way.0 last way.2

pub spaces-led : (s : ScopeTables) (t : Tables) (steps : ℕ) (id last : TypeId) (r : TypeRow) → Sound t → id.0 < length t.rows → LeadsTo t steps id last → slice_get t.rows last.0 ≡ Some r → through r.kind ≡ None → type_spaces s t most_steps id ≡ named_spaces s t r.kind
spaces-led s t steps id last r sound known way at end = chain-spaces s t steps most_steps id last r (chain-short t sound steps id last known (chain-led t steps id last way)) way at end
