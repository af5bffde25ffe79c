-- How the scopes that are entered lie in one another ([basic.scope]).
use Rattle.std.specs.Prelude.{◌≡◌, ℕ, ◌<◌, ◌==◌, List, [], ◌∷◌, Option, None, Some, option_map, IsSome}
use Rattle.std.specs.Map.{lookup}
use Rattle.cx_type_defs.specs.declared.ids.ClassId.{ClassId}
use Rattle.cx_type_defs.specs.declared.ids.EnumId.{EnumId}
use Rattle.cx_scopes.specs.declared.kinds.ScopeId.{ScopeId}
use Rattle.cx_scopes.specs.declared.kinds.ScopeId.TheVariants as scope
use Rattle.cx_scopes.specs.declared.kinds.ScopeKind.{ScopeKind}
use Rattle.cx_scopes.specs.declared.kinds.ScopeKind.TheVariants as kind
use Rattle.cx_scopes.specs.declared.entered.Entered.{Entered}
use Rattle.cx_scopes.specs.declared.kept.ClassScope.{ClassScope}
use Rattle.cx_scopes.specs.Scopes.{ScopeTables, class_scope, innermost}

-- the bases that a class's scope keeps, where the class was entered
abbrev pub kept_bases : ScopeTables → ClassId → Option (List ClassId)
kept_bases s c = option_map (λ (k : ClassScope). k.bases) (class_scope s c)

-- the namespace around an enumeration, where it was entered
abbrev pub kept_enum : ScopeTables → EnumId → Option ℕ
kept_enum s e = lookup (λ (f : EnumId). e.0 == f.0) s.enums

-- what the kind of a scope says of it, where `around` is the innermost namespace outside: a namespace is the innermost
-- one within it; a class is kept with its bases, and an enumeration is kept; a function or block has a scope of no name
abbrev pub IsOfKind : ScopeTables → ℕ → ScopeKind → Option ScopeId → ℕ → Type 0
IsOfKind s around (kind.Namespace name) p n = (p ≡ Some (scope.Space n)) × (n < s.spaces)
IsOfKind s around (kind.Class c bases) p n = (p ≡ Some (scope.Class c)) × (n ≡ around) × (kept_bases s c ≡ Some bases)
IsOfKind s around (kind.Enum e) p n = (p ≡ Some (scope.Enum e)) × (n ≡ around) × IsSome (kept_enum s e)
IsOfKind s around (kind.Function f) p n = (p ≡ None) × (n ≡ around)
IsOfKind s around kind.Block p n = (p ≡ None) × (n ≡ around)

-- each of the scopes is of its kind, from the innermost outwards
abbrev pub EachOfItsKind : ScopeTables → List Entered → Type 0
EachOfItsKind s [] = Unit {0}
EachOfItsKind s (e ∷ entered) = IsOfKind s (innermost entered) e.kind e.scope e.space × EachOfItsKind s entered

-- there is a global namespace, and each scope that is entered is of its kind
pub record IsNested (s : ScopeTables) : Type 0 where
  pub has_global : 0 < s.spaces
  pub each : EachOfItsKind s s.entered

-- a class is entered with the bases that its scope keeps, if it keeps some
abbrev pub KeepsBases : ScopeTables → ScopeKind → Type 0
KeepsBases s (kind.Class c bases) = (kept : List ClassId) → kept_bases s c ≡ Some kept → kept ≡ bases
KeepsBases s _ = Unit {0}
