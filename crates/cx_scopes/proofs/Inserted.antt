-- Entries that are put into a map, unless they are there.
use Rattle.std.proofs.Common.{◌≡◌, ℕ, Bool, true, false, List, [], ◌∷◌, ◌++◌, cond, Some, refl, sym, ap, ◌∙◌, if◌then◌else◌, is_some}
use Rattle.std.specs.Prelude.{unwrap_or}
use Rattle.std.specs.Map.{lookup, set_value}
use Rattle.indexmap.specs.IndexMap.{insert_entry}
use Rattle.cx_type_defs.specs.declared.ids.TypeId.{TypeId}
use Rattle.cx_scopes.specs.declared.kinds.ScopeId.{ScopeId}
use Rattle.cx_scopes.specs.declared.kinds.ScopeId.TheVariants as scope
use Rattle.cx_scopes.specs.declared.kinds.Entity.{Entity}
use Rattle.cx_scopes.specs.declared.kinds.Entity.TheVariants.{Named}
use Rattle.cx_scopes.specs.Names.{Names, with_meaning, same_scope}
use Rattle.cx_scopes.specs.Scopes.{names_at, with_name}
use Rattle.cx_scopes.specs.Steps.{with_type, types_with}

module _ {K V : Type 0} (eq : K → K → Bool) (k : K) (v : V) where
  insert-new : (es : List (K × V)) → is_some (lookup (eq k) es) ≡ false → insert_entry eq es k v ≡ es ++ (k, v) ∷ []
  insert-new [] h = refl
  insert-new (e ∷ es) h = by (eq k e.0) (insert-new es) h
    where
      by : (b : Bool) → (is_some (lookup (eq k) es) ≡ false → insert_entry eq es k v ≡ es ++ (k, v) ∷ [])
          → is_some (cond b (Some e.1) (lookup (eq k) es)) ≡ false → (if b then (e.0, v) ∷ es else e ∷ insert_entry eq es k v) ≡ e ∷ (es ++ (k, v) ∷ [])
      by true rest k = cc
      by false rest k = ap (λ l. e ∷ l) (rest k)

  -- an entry whose key wasn't there
  pub insert-kept : (es : List (K × V)) → is_some (lookup (eq k) es) ≡ false → insert_entry eq es k v ≡ (if is_some (lookup (eq k) es) then es else es ++ (k, v) ∷ [])
  insert-kept es h = insert-new es h ∙ sym (ap (λ b. if b then es else es ++ (k, v) ∷ []) h)

-- a declaration of a type in a namespace or class
pub types-named : (types : List (TypeId × ℕ)) (p : ScopeId) (t : TypeId) (n : ℕ) → ((e : _) → p ≡ scope.Enum e → ⊥) → types_with types p (Named t) n ≡ with_type types t n
types-named types (scope.Space m) t n h = refl
types-named types (scope.Class c) t n h = refl
types-named types (scope.Enum e) t n h = absurd (h e refl)

tables-inserted : (tables : List (ScopeId × Names)) (p : ScopeId) (name : List ℕ) (e : Entity) → names_at tables p ≡ [] → insert_entry same_scope tables p (with_meaning [] name e) ≡ with_name tables p name e
tables-inserted [] p name e h = refl
tables-inserted (table ∷ tables) p name e h = by (same_scope p table.0) (tables-inserted tables p name e) h
  where
    by : (b : Bool) → (names_at tables p ≡ [] → insert_entry same_scope tables p (with_meaning [] name e) ≡ with_name tables p name e)
        → unwrap_or (cond b (Some table.1) (lookup (same_scope p) tables)) [] ≡ []
        → (if b then (table.0, with_meaning [] name e) ∷ tables else table ∷ insert_entry same_scope tables p (with_meaning [] name e)) ≡ (if b then (table.0, with_meaning table.1 name e) ∷ tables else table ∷ with_name tables p name e)
    by true rest k = ap (λ (names : Names). (table.0, with_meaning names name e) ∷ tables) (sym k)
    by false rest k = ap (λ l. table ∷ l) (rest k)

tables-set : (tables : List (ScopeId × Names)) (p : ScopeId) (name : List ℕ) (names : Names) (e : Entity) → lookup (same_scope p) tables ≡ Some names → set_value (same_scope p) tables (with_meaning names name e) ≡ with_name tables p name e
tables-set [] p name names e h = cc
tables-set (table ∷ tables) p name names e h = by (same_scope p table.0) (tables-set tables p name names e) h
  where
    by : (b : Bool) → (lookup (same_scope p) tables ≡ Some names → set_value (same_scope p) tables (with_meaning names name e) ≡ with_name tables p name e)
        → cond b (Some table.1) (lookup (same_scope p) tables) ≡ Some names
        → cond b ((table.0, with_meaning names name e) ∷ tables) (table ∷ set_value (same_scope p) tables (with_meaning names name e)) ≡ (if b then (table.0, with_meaning table.1 name e) ∷ tables else table ∷ with_name tables p name e)
    by true rest k = let equal : names ≡ table.1 = cc in ap (λ (l : Names). (table.0, with_meaning l name e) ∷ tables) equal
    by false rest k = ap (λ l. table ∷ l) (rest k)

-- the tables of every scope, found by an equality of scopes
module _ (eq : ScopeId → ScopeId → Bool) (same : (p q : ScopeId) → eq p q ≡ same_scope p q) where
  pub lookup-same : {V : Type 0} (tables : List (ScopeId × V)) (p : ScopeId) → lookup (eq p) tables ≡ lookup (same_scope p) tables
  lookup-same tables p = λ i. lookup (λ q. same p q i) tables

  pub set_value-same : {V : Type 0} (tables : List (ScopeId × V)) (p : ScopeId) (v : V) → set_value (eq p) tables v ≡ set_value (same_scope p) tables v
  set_value-same tables p v = λ i. set_value (λ q. same p q i) tables v

  -- a scope that has no names yet
  pub tables-insert : (tables : List (ScopeId × Names)) (p : ScopeId) (name : List ℕ) (e : Entity) → names_at tables p ≡ [] → insert_entry eq tables p (with_meaning [] name e) ≡ with_name tables p name e
  tables-insert tables p name e h = (λ i. insert_entry (λ q r. same q r i) tables p (with_meaning [] name e)) ∙ tables-inserted tables p name e h

  -- a scope that has some
  pub tables-written : (tables : List (ScopeId × Names)) (p : ScopeId) (name : List ℕ) (names : Names) (e : Entity) → lookup (eq p) tables ≡ Some names → set_value (eq p) tables (with_meaning names name e) ≡ with_name tables p name e
  tables-written tables p name names e h = set_value-same tables p (with_meaning names name e) ∙ tables-set tables p name names e (sym (lookup-same tables p) ∙ h)
