-- What stays where scopes are entered and left and names are declared.
use Rattle.std.proofs.Common.{◌≡◌, ℕ, Bool, true, false, List, [], ◌∷◌, ◌++◌, cond, Option, Some, None, Result, Ok, Err, refl, sym, ap, subst, ◌∙◌, append_assoc, arith, if◌then◌else◌, is_some}
use Rattle.std.specs.Prelude.{◌==◌, unwrap_or}
use Rattle.std.specs.Map.{lookup}
use Rattle.std.specs.Str.{bytes_eq}
use Rattle.std.proofs.lemmas.List.{append-nil}
use Rattle.cx_type_defs.specs.declared.ids.ClassId.{ClassId}
use Rattle.cx_type_defs.specs.declared.ids.EnumId.{EnumId}
use Rattle.cx_type_defs.specs.declared.ids.TypeId.{TypeId}
use Rattle.cx_scopes.specs.declared.kinds.LookAnswer.{LookAnswer}
use Rattle.cx_scopes.specs.declared.kinds.LookAnswer.TheVariants.{Redeclared}
use Rattle.cx_scopes.specs.declared.kinds.ScopeId.{ScopeId}
use Rattle.cx_scopes.specs.declared.kinds.ScopeId.TheVariants as scope
use Rattle.cx_scopes.specs.declared.kinds.Entity.{Entity}
use Rattle.cx_scopes.specs.declared.kinds.Entity.TheVariants as entity
use Rattle.cx_scopes.specs.declared.kinds.ScopeKind.{ScopeKind}
use Rattle.cx_scopes.specs.declared.kinds.ScopeKind.TheVariants as kind
use Rattle.cx_scopes.specs.Names.{Names, meanings, with_meaning, same_scope, is_among, may_join}
use Rattle.cx_scopes.specs.Scopes.{ScopeTables, names_at, with_name, meanings_at, place_of, space_around}
use Rattle.cx_scopes.specs.Steps.{own_meanings, declared, declared_at, declared_in_space, space_entered_by, with_declaration, types_with, with_entered, with_class, with_enum, with_space, space_entered, entered_with, left}
use Rattle.cx_scopes.specs.Growth.{Extends, Grows}

extends-same : {A : Type 0} (xs : List A) → Extends xs xs
extends-same xs = ([], sym (append-nil xs))

grown-list : (c : Bool) (es others : List Entity) (e : Entity) → Extends (if c then es else others) (if c then es ++ e ∷ [] else others)
grown-list true es others e = (e ∷ [], refl)
grown-list false es others e = extends-same others

grown-rest : (c : Bool) (es old now : List Entity) → Extends old now → Extends (if c then es else old) (if c then es else now)
grown-rest true es old now h = extends-same es
grown-rest false es old now h = h

-- a name keeps its meanings, with one more behind them or not
grow-names : (names : Names) (name : List ℕ) (e : Entity) (other : List ℕ) → Extends (meanings names other) (meanings (with_meaning names name e) other)
grow-names [] name e other = (meanings ((name, e ∷ []) ∷ []) other, refl)
grow-names (entry ∷ names) name e other = by (bytes_eq name entry.0) (grow-names names name e other)
  where
    by : (b : Bool) → Extends (meanings names other) (meanings (with_meaning names name e) other)
        → Extends (meanings (entry ∷ names) other) (meanings (if b then (entry.0, entry.1 ++ e ∷ []) ∷ names else entry ∷ with_meaning names name e) other)
    by true rest = grown-list (bytes_eq other entry.0) entry.1 (meanings names other) e
    by false rest = grown-rest (bytes_eq other entry.0) entry.1 (meanings names other) (meanings (with_meaning names name e) other) rest

module _ (p : ScopeId) (other : List ℕ) where
  -- what a list of tables says of the name in the scope
  abbrev at : Option Names → List Entity
  at o = meanings (unwrap_or o []) other

  grown-table : (c : Bool) (names : Names) (o : Option Names) (name : List ℕ) (e : Entity) → Extends (at (cond c (Some names) o)) (at (cond c (Some (with_meaning names name e)) o))
  grown-table true names o name e = grow-names names name e other
  grown-table false names o name e = extends-same (at o)

  grown-tables : (c : Bool) (names : Names) (old now : Option Names) → Extends (at old) (at now) → Extends (at (cond c (Some names) old)) (at (cond c (Some names) now))
  grown-tables true names old now h = extends-same (at (Some names))
  grown-tables false names old now h = h

  grow-tables : (tables : List (ScopeId × Names)) (q : ScopeId) (name : List ℕ) (e : Entity) → Extends (meanings (names_at tables p) other) (meanings (names_at (with_name tables q name e) p) other)
  grow-tables [] q name e = (meanings (names_at ((q, with_meaning [] name e) ∷ []) p) other, refl)
  grow-tables (table ∷ tables) q name e = by (same_scope q table.0) (grow-tables tables q name e)
    where
      by : (b : Bool) → Extends (meanings (names_at tables p) other) (meanings (names_at (with_name tables q name e) p) other)
          → Extends (meanings (names_at (table ∷ tables) p) other) (meanings (names_at (if b then (table.0, with_meaning table.1 name e) ∷ tables else table ∷ with_name tables q name e) p) other)
      by true rest = grown-table (same_scope p table.0) table.1 (lookup (same_scope p) tables) name e
      by false rest = grown-tables (same_scope p table.0) table.1 (lookup (same_scope p) tables) (lookup (same_scope p) (with_name tables q name e)) rest

module _ {K V : Type 0} (test : K → Bool) where
  -- an entry behind the others changes no look-up that was answered
  lookup-behind : (es more : List (K × V)) (v : V) → lookup test es ≡ Some v → lookup test (es ++ more) ≡ Some v
  lookup-behind [] more v h = cc
  lookup-behind (e ∷ es) more v h = by (test e.0) (lookup-behind es more v) h
    where
      by : (b : Bool) → (lookup test es ≡ Some v → lookup test (es ++ more) ≡ Some v) → cond b (Some e.1) (lookup test es) ≡ Some v → cond b (Some e.1) (lookup test (es ++ more)) ≡ Some v
      by true rest k = k
      by false rest k = rest k

  lookup-kept : (b : Bool) (es more : List (K × V)) (v : V) → lookup test es ≡ Some v → lookup test (if b then es else es ++ more) ≡ Some v
  lookup-kept true es more v h = h
  lookup-kept false es more v h = lookup-behind es more v h

pub grows-same : (s : ScopeTables) → Grows s s
grows-same s = record { more_spaces = omega arith; meanings_stay = λ p name. extends-same (meanings_at s p name); classes_stay = λ c k h. h; enums_stay = λ e n h. h; types_stay = λ t n h. h }

extends-on : {A : Type 0} (xs ys zs : List A) → Extends xs ys → Extends ys zs → Extends xs zs
extends-on xs ys zs h k = (h.0 ++ k.0, k.1 ∙ ap (λ l. l ++ k.0) h.1 ∙ append_assoc xs h.0 k.0)

pub grows-on : (s u v : ScopeTables) → Grows s u → Grows u v → Grows s v
grows-on s u v g h = record {
  more_spaces = (let a = g.more_spaces in let b = h.more_spaces in omega arith);
  meanings_stay = λ p name. extends-on (meanings_at s p name) (meanings_at u p name) (meanings_at v p name) (g.meanings_stay p name) (h.meanings_stay p name);
  classes_stay = λ c k e. h.classes_stay c k (g.classes_stay c k e);
  enums_stay = λ e n k. h.enums_stay e n (g.enums_stay e n k);
  types_stay = λ t n e. h.types_stay t n (g.types_stay t n e);
}

types-kept : (types : List (TypeId × ℕ)) (p : ScopeId) (e : Entity) (around : ℕ) (t : TypeId) (n : ℕ) → lookup (λ (u : TypeId). t.0 == u.0) types ≡ Some n → lookup (λ (u : TypeId). t.0 == u.0) (types_with types p e around) ≡ Some n
types-kept types (scope.Enum id) e around t n h = h
types-kept types (scope.Space m) (entity.Named u) around t n h = lookup-kept (λ (v : TypeId). t.0 == v.0) (is_some (lookup (λ (v : TypeId). u.0 == v.0) types)) types ((u, around) ∷ []) n h
types-kept types (scope.Space m) (entity.Function f) around t n h = h
types-kept types (scope.Space m) (entity.Variable v) around t n h = h
types-kept types (scope.Space m) (entity.Field c i) around t n h = h
types-kept types (scope.Space m) (entity.Enumerator e i) around t n h = h
types-kept types (scope.Space m) (entity.Space q) around t n h = h
types-kept types (scope.Class c) (entity.Named u) around t n h = lookup-kept (λ (v : TypeId). t.0 == v.0) (is_some (lookup (λ (v : TypeId). u.0 == v.0) types)) types ((u, around) ∷ []) n h
types-kept types (scope.Class c) (entity.Function f) around t n h = h
types-kept types (scope.Class c) (entity.Variable v) around t n h = h
types-kept types (scope.Class c) (entity.Field d i) around t n h = h
types-kept types (scope.Class c) (entity.Enumerator e i) around t n h = h
types-kept types (scope.Class c) (entity.Space q) around t n h = h

pub grows-declaration : (p : Option ScopeId) (s : ScopeTables) (name : List ℕ) (e : Entity) → Grows s (with_declaration p s name e)
grows-declaration None s name e = record { more_spaces = omega arith; meanings_stay = λ p other. extends-same (meanings_at s p other); classes_stay = λ c k h. h; enums_stay = λ e n h. h; types_stay = λ t n h. h }
grows-declaration (Some p) s name e = record {
  more_spaces = omega arith;
  meanings_stay = λ q other. grow-tables q other s.tables p name e;
  classes_stay = λ c k h. h;
  enums_stay = λ e n h. h;
  types_stay = λ t n h. types-kept s.types p e (space_around s) t n h;
}

-- a declaration
pub grows-declared-at : (p : Option ScopeId) (s u : ScopeTables) (name : List ℕ) (e : Entity) → declared_at p s name e ≡ Ok u → Grows s u
grows-declared-at p s u name e h = by (may_join e (own_meanings p s.entered s name)) (is_among e (own_meanings p s.entered s name)) h
  where
    by : (b c : Bool) → (if b then Ok (if c then s else with_declaration p s name e) else Err Redeclared) ≡ Ok u → Grows s u
    by true true k = subst (Grows s) (let same : s ≡ u = cc in same) (grows-same s)
    by true false k = subst (Grows s) (let same : with_declaration p s name e ≡ u = cc in same) (grows-declaration p s name e)
    by false c k = cc

pub grows-declared : (s u : ScopeTables) (name : List ℕ) (e : Entity) → declared s name e ≡ Ok u → Grows s u
grows-declared s u name e h = grows-declared-at (place_of s.entered) s u name e h

pub grows-declared-in-space : (s u : ScopeTables) (name : List ℕ) (e : Entity) → declared_in_space s name e ≡ Ok u → Grows s u
grows-declared-in-space s u name e h = grows-declared-at (Some (scope.Space (space_around s))) s u name e h

grows-entered : (s u : ScopeTables) (k : ScopeKind) (p : Option ScopeId) (n : ℕ) → Grows s u → Grows s (with_entered u k p n)
grows-entered s u k p n g = record { more_spaces = g.more_spaces; meanings_stay = g.meanings_stay; classes_stay = g.classes_stay; enums_stay = g.enums_stay; types_stay = g.types_stay }

pub grows-space : (s : ScopeTables) (name : List ℕ) → Grows s (with_space s name)
grows-space s name = record {
  more_spaces = omega arith;
  meanings_stay = λ q other. grow-tables q other s.tables (scope.Space (space_around s)) name (entity.Space (scope.Space s.spaces));
  classes_stay = λ c k h. h;
  enums_stay = λ e n h. h;
  types_stay = λ t n h. h;
}

abbrev taken : ScopeTables → Result ScopeTables LookAnswer
taken s = Ok s

is-ok : (P : ScopeTables → Type 0) (a u : ScopeTables) → taken a ≡ taken u → P a → P u
is-ok P a u h x = subst P (let same : a ≡ u = cc in same) x

grows-named : (s u : ScopeTables) (name : List ℕ) (es : List Entity) → space_entered es s name ≡ Ok u → Grows s u
grows-named s u name [] h = is-ok (Grows s) _ u h (grows-entered s (with_space s name) (kind.Namespace name) (Some (scope.Space s.spaces)) s.spaces (grows-space s name))
grows-named s u name (entity.Space (scope.Space n) ∷ es) h = is-ok (Grows s) _ u h (grows-entered s s (kind.Namespace name) (Some (scope.Space n)) n (grows-same s))
grows-named s u name (entity.Space (scope.Class c) ∷ es) h = cc
grows-named s u name (entity.Space (scope.Enum e) ∷ es) h = cc
grows-named s u name (entity.Function f ∷ es) h = cc
grows-named s u name (entity.Variable v ∷ es) h = cc
grows-named s u name (entity.Field c i ∷ es) h = cc
grows-named s u name (entity.Enumerator e i ∷ es) h = cc
grows-named s u name (entity.Named t ∷ es) h = cc

-- a class or an enumeration that is kept
pub grows-class : (s : ScopeTables) (c : ClassId) (bases : List ClassId) → Grows s (record s { classes = with_class s.classes c bases (space_around s) })
grows-class s c bases = record {
  more_spaces = omega arith;
  meanings_stay = λ q other. extends-same (meanings_at s q other);
  classes_stay = λ d k e. lookup-kept (λ (x : ClassId). d.0 == x.0) (is_some (lookup (λ (x : ClassId). c.0 == x.0) s.classes)) s.classes ((c, record { bases = bases; space = space_around s }) ∷ []) k e;
  enums_stay = λ e n h. h;
  types_stay = λ t n h. h;
}

pub grows-enum : (s : ScopeTables) (e : EnumId) → Grows s (record s { enums = with_enum s.enums e (space_around s) })
grows-enum s e = record {
  more_spaces = omega arith;
  meanings_stay = λ q other. extends-same (meanings_at s q other);
  classes_stay = λ d k e. e;
  enums_stay = λ f n k. lookup-kept (λ (x : EnumId). f.0 == x.0) (is_some (lookup (λ (x : EnumId). e.0 == x.0) s.enums)) s.enums ((e, space_around s) ∷ []) n k;
  types_stay = λ t n h. h;
}

-- a scope that is entered
pub grows-with : (s u : ScopeTables) (k : ScopeKind) → entered_with s k ≡ Ok u → Grows s u
grows-with s u (kind.Namespace name) h = grows-named s u name (meanings_at s (scope.Space (space_around s)) name) h
grows-with s u (kind.Class c bases) h = is-ok (Grows s) _ u h (grows-entered s (record s { classes = with_class s.classes c bases (space_around s) }) (kind.Class c bases) (Some (scope.Class c)) (space_around s) (grows-class s c bases))
grows-with s u (kind.Enum e) h = is-ok (Grows s) _ u h (grows-entered s (record s { enums = with_enum s.enums e (space_around s) }) (kind.Enum e) (Some (scope.Enum e)) (space_around s) (grows-enum s e))
grows-with s u (kind.Function f) h = is-ok (Grows s) _ u h (grows-entered s s (kind.Function f) None (space_around s) (grows-same s))
grows-with s u kind.Block h = is-ok (Grows s) _ u h (grows-entered s s kind.Block None (space_around s) (grows-same s))

-- a namespace that is entered by its number
pub grows-known-space : (s : ScopeTables) (name : List ℕ) (n : ℕ) → Grows s (space_entered_by s name n)
grows-known-space s name n = grows-entered s s (kind.Namespace name) (Some (scope.Space n)) n (grows-same s)

-- the scope is left
pub grows-left : (s : ScopeTables) → Grows s (left s)
grows-left s = record { more_spaces = omega arith; meanings_stay = λ p other. extends-same (meanings_at s p other); classes_stay = λ c k h. h; enums_stay = λ e n h. h; types_stay = λ t n h. h }
