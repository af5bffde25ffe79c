-- What stays where scopes are entered and left and names are declared.
use Rattle.std.specs.Prelude.{◌≡◌, ℕ, ◌<◌, ◌≤◌, List, ◌++◌, length, Option, Some}
use Rattle.std.specs.Map.{lookup}
use Rattle.std.specs.Prelude.{◌==◌}
use Rattle.cx_type_defs.specs.declared.ids.ClassId.{ClassId}
use Rattle.cx_type_defs.specs.declared.ids.EnumId.{EnumId}
use Rattle.cx_type_defs.specs.declared.ids.TypeId.{TypeId}
use Rattle.cx_scopes.specs.declared.kept.ClassScope.{ClassScope}
use Rattle.cx_scopes.specs.declared.kinds.ScopeId.{ScopeId}
use Rattle.cx_scopes.specs.declared.kinds.ScopeId.TheVariants as scope
use Rattle.cx_scopes.specs.Scopes.{ScopeTables, meanings_at, class_scope}

-- a list, with more behind it
abbrev pub Extends : {A : Type 0} → List A → List A → Type 0
Extends {A} old now = (more : List A) × (now ≡ old ++ more)

-- what each name means in a namespace, class or enumeration stays, with more behind it; and what is kept of classes,
-- enumerations and types stays
pub record Grows (old now : ScopeTables) : Type 0 where
  pub more_spaces : old.spaces ≤ now.spaces
  pub meanings_stay : (p : ScopeId) (name : List ℕ) → Extends (meanings_at old p name) (meanings_at now p name)
  pub classes_stay : (c : ClassId) (k : ClassScope) → class_scope old c ≡ Some k → class_scope now c ≡ Some k
  pub enums_stay : (e : EnumId) (n : ℕ) → lookup (λ (f : EnumId). e.0 == f.0) old.enums ≡ Some n → lookup (λ (f : EnumId). e.0 == f.0) now.enums ≡ Some n
  pub types_stay : (t : TypeId) (n : ℕ) → lookup (λ (u : TypeId). t.0 == u.0) old.types ≡ Some n → lookup (λ (u : TypeId). t.0 == u.0) now.types ≡ Some n

-- a class that is the present scope is kept
abbrev pub IsKept : ScopeTables → Option ScopeId → Type 0
IsKept s (Some (scope.Class c)) = 0 < length s.classes
IsKept s _ = Unit {0}
