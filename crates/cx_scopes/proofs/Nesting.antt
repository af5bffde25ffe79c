-- The scopes that are entered stay of their kinds, whatever is done.
use Rattle.std.proofs.Common.{◌≡◌, ℕ, ◌+◌, ◌<◌, Bool, true, false, List, [], ◌∷◌, ◌++◌, cond, length, Option, Some, None, Result, Ok, Err, refl, sym, ap, subst, ◌∙◌, arith, if◌then◌else◌, is_some}
use Rattle.std.specs.Prelude.{◌==◌, unwrap_or, drop, IsSome, option_map}
use Rattle.std.specs.Map.{lookup}
use Rattle.std.proofs.lemmas.Cmp.{nat_eq_equiv}
use Rattle.cx_type_defs.specs.declared.ids.ClassId.{ClassId}
use Rattle.cx_type_defs.specs.declared.ids.EnumId.{EnumId}
use Rattle.cx_scopes.specs.declared.kinds.LookAnswer.{LookAnswer}
use Rattle.cx_scopes.specs.declared.kinds.LookAnswer.TheVariants.{Redeclared}
use Rattle.cx_scopes.specs.declared.kinds.ScopeId.{ScopeId}
use Rattle.cx_scopes.specs.declared.kinds.ScopeId.TheVariants as scope
use Rattle.cx_scopes.specs.declared.kinds.Entity.{Entity}
use Rattle.cx_scopes.specs.declared.kinds.Entity.TheVariants as entity
use Rattle.cx_scopes.specs.declared.kinds.ScopeKind.{ScopeKind}
use Rattle.cx_scopes.specs.declared.kinds.ScopeKind.TheVariants as kind
use Rattle.cx_scopes.specs.declared.entered.Entered.{Entered}
use Rattle.cx_scopes.specs.declared.kept.ClassScope.{ClassScope}
use Rattle.cx_scopes.specs.Names.{is_among, may_join}
use Rattle.cx_scopes.specs.Scopes.{ScopeTables, no_scopes, meanings_at, class_scope, innermost, place_of, space_around}
use Rattle.cx_scopes.specs.Steps.{own_meanings, declared, declared_at, declared_in_space, with_declaration, with_own, with_entered, with_space, with_class, with_enum, space_entered, space_entered_by, entered_with, left}
use Rattle.cx_scopes.specs.Growth.{Grows, IsKept}
use Rattle.cx_scopes.specs.Nested.{kept_bases, kept_enum, IsOfKind, EachOfItsKind, IsNested, KeepsBases}
use Rattle.cx_scopes.specs.Counts.{Counts, HasEach, NamesWhatIs}
use Rattle.cx_scopes.proofs.Growing.{grows-declaration, grows-same, grows-space, grows-class, grows-enum}

some-stays : {A B : Type 0} (f : A → B) (o : Option A) (b : B) → option_map f o ≡ Some b → (a : A) × (o ≡ Some a) × (f a ≡ b)
some-stays f None b h = cc
some-stays f (Some a) b h = (a, refl, cc)

some-given : {A : Type 0} (o : Option A) → IsSome o → (a : A) × (o ≡ Some a)
some-given None h = cc
some-given (Some a) h = (a, refl)

bases-stay : (s u : ScopeTables) → Grows s u → (c : ClassId) (bases : List ClassId) → kept_bases s c ≡ Some bases → kept_bases u c ≡ Some bases
bases-stay s u g c bases h =
    let r = some-stays (λ (k : ClassScope). k.bases) (class_scope s c) bases h in
    ap (option_map (λ (k : ClassScope). k.bases)) (g.classes_stay c r.0 r.1) ∙ ap (λ l. Some l) r.2

enum-stays : (s u : ScopeTables) → Grows s u → (e : EnumId) → IsSome (kept_enum s e) → IsSome (kept_enum u e)
enum-stays s u g e h = let r = some-given (kept_enum s e) h in subst IsSome (sym (g.enums_stay e r.0 r.1)) refl

module _ (s u : ScopeTables) (g : Grows s u) where
  kind-stays : (around : ℕ) (k : ScopeKind) (p : Option ScopeId) (n : ℕ) → IsOfKind s around k p n → IsOfKind u around k p n
  kind-stays around (kind.Namespace name) p n h = (h.0, let a = g.more_spaces in let b = h.1 in omega arith)
  kind-stays around (kind.Class c bases) p n h = (h.0, h.1, bases-stay s u g c bases h.2)
  kind-stays around (kind.Enum e) p n h = (h.0, h.1, enum-stays s u g e h.2)
  kind-stays around (kind.Function f) p n h = h
  kind-stays around kind.Block p n h = h

  each-stays : (entered : List Entered) → EachOfItsKind s entered → EachOfItsKind u entered
  each-stays [] h = tt
  each-stays (x ∷ entered) h = (kind-stays (innermost entered) x.kind x.scope x.space h.0, each-stays entered h.1)

each-own : (s : ScopeTables) (entered : List Entered) (name : List ℕ) (e : Entity) → EachOfItsKind s entered → EachOfItsKind s (with_own entered name e)
each-own s [] name e h = tt
each-own s (x ∷ entered) name e h = h

pub nested-none : IsNested no_scopes
nested-none = record { has_global = omega arith; each = tt }

nested-declaration : (p : Option ScopeId) (s : ScopeTables) (name : List ℕ) (e : Entity) → IsNested s → IsNested (with_declaration p s name e)
nested-declaration None s name e h = record { has_global = h.has_global; each = each-stays s (with_declaration None s name e) (grows-declaration None s name e) (with_own s.entered name e) (each-own s s.entered name e h.each) }
nested-declaration (Some p) s name e h = record { has_global = h.has_global; each = each-stays s (with_declaration (Some p) s name e) (grows-declaration (Some p) s name e) s.entered h.each }

pub nested-declared-at : (p : Option ScopeId) (s u : ScopeTables) (name : List ℕ) (e : Entity) → IsNested s → declared_at p s name e ≡ Ok u → IsNested u
nested-declared-at p s u name e h d = by (may_join e (own_meanings p s.entered s name)) (is_among e (own_meanings p s.entered s name)) d
  where
    by : (b c : Bool) → (if b then Ok (if c then s else with_declaration p s name e) else Err Redeclared) ≡ Ok u → IsNested u
    by true true j = subst IsNested (let same : s ≡ u = cc in same) h
    by true false j = subst IsNested (let same : with_declaration p s name e ≡ u = cc in same) (nested-declaration p s name e h)
    by false c j = cc

pub nested-declared : (s u : ScopeTables) (name : List ℕ) (e : Entity) → IsNested s → declared s name e ≡ Ok u → IsNested u
nested-declared s u name e h d = nested-declared-at (place_of s.entered) s u name e h d

pub nested-declared-in-space : (s u : ScopeTables) (name : List ℕ) (e : Entity) → IsNested s → declared_in_space s name e ≡ Ok u → IsNested u
nested-declared-in-space s u name e h d = nested-declared-at (Some (scope.Space (space_around s))) s u name e h d

-- one more scope of its kind, over tables that have grown
nested-entered : (s u : ScopeTables) (k : ScopeKind) (p : Option ScopeId) (n : ℕ) → IsNested s → Grows s u → u.entered ≡ s.entered → IsOfKind u (innermost s.entered) k p n → IsNested (with_entered u k p n)
nested-entered s u k p n h g same of = record {
  has_global = (let a = g.more_spaces in let b = h.has_global in omega arith);
  each = (kind-of, subst (λ (l : List Entered). EachOfItsKind (with_entered u k p n) l) (sym same) (each-within s.entered (each-stays s u g s.entered h.each)));
}
  where
    kind-within : (around : ℕ) (j : ScopeKind) (q : Option ScopeId) (m : ℕ) → IsOfKind u around j q m → IsOfKind (with_entered u k p n) around j q m
    kind-within around (kind.Namespace name) q m h = h
    kind-within around (kind.Class c bases) q m h = h
    kind-within around (kind.Enum e) q m h = h
    kind-within around (kind.Function f) q m h = h
    kind-within around kind.Block q m h = h

    each-within : (entered : List Entered) → EachOfItsKind u entered → EachOfItsKind (with_entered u k p n) entered
    each-within [] h = tt
    each-within (x ∷ entered) h = (kind-within (innermost entered) x.kind x.scope x.space h.0, each-within entered h.1)

    kind-of : IsOfKind (with_entered u k p n) (innermost u.entered) k p n
    kind-of = subst (λ (l : List Entered). IsOfKind (with_entered u k p n) (innermost l) k p n) (sym same) (kind-within (innermost s.entered) k p n of)

abbrev taken : ScopeTables → Result ScopeTables LookAnswer
taken s = Ok s

is-ok : (a u : ScopeTables) → taken a ≡ taken u → IsNested a → IsNested u
is-ok a u h x = subst IsNested (let same : a ≡ u = cc in same) x

nested-in-space : (p : Counts) (s u : ScopeTables) (name : List ℕ) (es : List Entity) → IsNested s → HasEach p s.spaces es → space_entered es s name ≡ Ok u → IsNested u
nested-in-space p s u name [] h k d = is-ok _ u d (nested-entered s (with_space s name) (kind.Namespace name) (Some (scope.Space s.spaces)) s.spaces h (grows-space s name) refl (refl, omega arith))
nested-in-space p s u name (entity.Space (scope.Space n) ∷ es) h k d = is-ok _ u d (nested-entered s s (kind.Namespace name) (Some (scope.Space n)) n h (grows-same s) refl (refl, k.0))
nested-in-space p s u name (entity.Space (scope.Class c) ∷ es) h k d = cc
nested-in-space p s u name (entity.Space (scope.Enum e) ∷ es) h k d = cc
nested-in-space p s u name (entity.Function f ∷ es) h k d = cc
nested-in-space p s u name (entity.Variable v ∷ es) h k d = cc
nested-in-space p s u name (entity.Field c i ∷ es) h k d = cc
nested-in-space p s u name (entity.Enumerator e i ∷ es) h k d = cc
nested-in-space p s u name (entity.Named t ∷ es) h k d = cc

module _ {K V : Type 0} (test : K → Bool) where
  lookup-last : (es : List (K × V)) (x : K) (v : V) → test x ≡ true → lookup test es ≡ None → lookup test (es ++ (x, v) ∷ []) ≡ Some v
  lookup-last [] x v h k = ap (λ b. cond b (Some v) None) h
  lookup-last (e ∷ es) x v h k = by (test e.0) (lookup-last es x v h) k
    where
      by : (b : Bool) → (lookup test es ≡ None → lookup test (es ++ (x, v) ∷ []) ≡ Some v) → cond b (Some e.1) (lookup test es) ≡ None → cond b (Some e.1) (lookup test (es ++ (x, v) ∷ [])) ≡ Some v
      by true rest j = cc
      by false rest j = rest j

  -- an entry that is put in unless one is there
  lookup-put : (o : Option V) (es : List (K × V)) (x : K) (v : V) → test x ≡ true → lookup test es ≡ o → lookup test (if is_some o then es else es ++ (x, v) ∷ []) ≡ Some (unwrap_or o v)
  lookup-put None es x v h k = lookup-last es x v h k
  lookup-put (Some w) es x v h k = k

kept-class : (s : ScopeTables) (c : ClassId) (bases : List ClassId) (n : ℕ) → KeepsBases s (kind.Class c bases) → kept_bases (record s { classes = with_class s.classes c bases n }) c ≡ Some bases
kept-class s c bases n keeps =
    ap (option_map (λ (k : ClassScope). k.bases)) (lookup-put (λ (d : ClassId). c.0 == d.0) (class_scope s c) s.classes c (record { bases = bases; space = n }) (nat_eq_equiv.refl c.0) refl)
    ∙ by (class_scope s c) refl
  where
    by : (o : Option ClassScope) → class_scope s c ≡ o → Some ((unwrap_or o (record { bases = bases; space = n })).bases) ≡ Some bases
    by None h = refl
    by (Some k) h = ap (λ l. Some l) (keeps k.bases (ap (option_map (λ (k : ClassScope). k.bases)) h))

kept-enumeration : (s : ScopeTables) (e : EnumId) (n : ℕ) → IsSome (kept_enum (record s { enums = with_enum s.enums e n }) e)
kept-enumeration s e n = subst IsSome (sym (lookup-put (λ (f : EnumId). e.0 == f.0) (kept_enum s e) s.enums e n (nat_eq_equiv.refl e.0) refl)) refl

-- a scope that is entered, in scopes that name what a program has
pub nested-with : (p : Counts) (s u : ScopeTables) (k : ScopeKind) → IsNested s → NamesWhatIs p s → KeepsBases s k → entered_with s k ≡ Ok u → IsNested u
nested-with p s u (kind.Namespace name) h names keeps d = nested-in-space p s u name (meanings_at s (scope.Space (space_around s)) name) h (names.places (scope.Space (space_around s)) name) d
nested-with p s u (kind.Class c bases) h names keeps d =
    is-ok _ u d (nested-entered s (record s { classes = with_class s.classes c bases (space_around s) }) (kind.Class c bases) (Some (scope.Class c)) (space_around s) h (grows-class s c bases) refl (refl, refl, kept-class s c bases (space_around s) keeps))
nested-with p s u (kind.Enum e) h names keeps d =
    is-ok _ u d (nested-entered s (record s { enums = with_enum s.enums e (space_around s) }) (kind.Enum e) (Some (scope.Enum e)) (space_around s) h (grows-enum s e) refl (refl, refl, kept-enumeration s e (space_around s)))
nested-with p s u (kind.Function f) h names keeps d = is-ok _ u d (nested-entered s s (kind.Function f) None (space_around s) h (grows-same s) refl (refl, refl))
nested-with p s u kind.Block h names keeps d = is-ok _ u d (nested-entered s s kind.Block None (space_around s) h (grows-same s) refl (refl, refl))

pub nested-known-space : (s : ScopeTables) (name : List ℕ) (n : ℕ) → IsNested s → n < s.spaces → IsNested (space_entered_by s name n)
nested-known-space s name n h k = nested-entered s s (kind.Namespace name) (Some (scope.Space n)) n h (grows-same s) refl (refl, k)

each-left : (s : ScopeTables) (entered : List Entered) → EachOfItsKind s entered → EachOfItsKind s (drop 1 entered)
each-left s [] h = tt
each-left s (x ∷ entered) h = h.1

pub nested-left : (s : ScopeTables) → IsNested s → IsNested (left s)
nested-left s h = record { has_global = h.has_global; each = within s.entered h.each }
  where
    kind-within : (around : ℕ) (j : ScopeKind) (q : Option ScopeId) (m : ℕ) → IsOfKind s around j q m → IsOfKind (left s) around j q m
    kind-within around (kind.Namespace name) q m h = h
    kind-within around (kind.Class c bases) q m h = h
    kind-within around (kind.Enum e) q m h = h
    kind-within around (kind.Function f) q m h = h
    kind-within around kind.Block q m h = h

    each-within : (entered : List Entered) → EachOfItsKind s entered → EachOfItsKind (left s) entered
    each-within [] h = tt
    each-within (x ∷ entered) h = (kind-within (innermost entered) x.kind x.scope x.space h.0, each-within entered h.1)

    within : (entered : List Entered) → EachOfItsKind s entered → EachOfItsKind (left s) (drop 1 entered)
    within [] h = tt
    within (x ∷ entered) h = each-within entered h.1

some-kept : (s : ScopeTables) (c : ClassId) (bases : List ClassId) → kept_bases s c ≡ Some bases → 0 < length s.classes
some-kept s c bases h = by s.classes h
  where
    by : (classes : List (ClassId × ClassScope)) → option_map (λ (k : ClassScope). k.bases) (lookup (λ (d : ClassId). c.0 == d.0) classes) ≡ Some bases → 0 < length classes
    by [] h = cc
    by (x ∷ classes) h = omega arith

-- a class that is the present scope is kept
pub nested-kept : (s : ScopeTables) → IsNested s → IsKept s (place_of s.entered)
nested-kept s h = by s.entered h.each
  where
    of : (around : ℕ) (k : ScopeKind) (p : Option ScopeId) (n : ℕ) → IsOfKind s around k p n → IsKept s p
    of around (kind.Namespace name) p n h = subst (IsKept s) (sym h.0) tt
    of around (kind.Class c bases) p n h = subst (IsKept s) (sym h.0) (some-kept s c bases h.2)
    of around (kind.Enum e) p n h = subst (IsKept s) (sym h.0) tt
    of around (kind.Function f) p n h = subst (IsKept s) (sym h.0) tt
    of around kind.Block p n h = subst (IsKept s) (sym h.0) tt

    by : (entered : List Entered) → EachOfItsKind s entered → IsKept s (place_of entered)
    by [] h = tt
    by (x ∷ entered) h = of (innermost entered) x.kind x.scope x.space h.0
