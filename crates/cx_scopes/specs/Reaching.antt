-- What a lookup says, in words of its own: which scope an answer comes from, and which classes and types lead to a namespace
-- ([basic.lookup.unqual], [basic.lookup.argdep]).
use Rattle.std.specs.Prelude.{◌≡◌, ◌⊎◌, ℕ, zero, suc, List, [], ◌∷◌, Option, None, Some, slice_get, option_and_then}
use Rattle.cx_type_defs.specs.declared.ids.ClassId.{ClassId}
use Rattle.cx_scopes.specs.declared.kinds.ScopeId.TheVariants as scope
use Rattle.cx_scopes.specs.declared.kinds.Entity.{Entity}
use Rattle.cx_scopes.specs.declared.kinds.Sought.{Sought}
use Rattle.cx_scopes.specs.Names.{counted}
use Rattle.cx_scopes.specs.declared.entered.Entered.{Entered}
use Rattle.cx_scopes.specs.Scopes.{ScopeTables, meanings_at, bases_of}
use Rattle.cx_type_defs.specs.declared.ids.TypeId.{TypeId}
use Rattle.cx_type_defs.specs.declared.kind.TypeRow.{TypeRow}
use Rattle.cx_type_defs.specs.declared.kind.TypeKind.{TypeKind}
use Rattle.cx_type_defs.specs.declared.kind.TypeKind.TheVariants as type
use Rattle.cx_type_defs.specs.Tables.{Tables}
use Rattle.cx_scopes.specs.Lookup.{said_by, levels_of}
use Rattle.cx_scopes.specs.Arguments.{class_space, class_spaces, enum_space, listed}

-- each of these scopes says nothing of the name
abbrev pub SayNothing : ScopeTables → Sought → List ℕ → List Entered → Type 0
SayNothing s sought name [] = Unit {0}
SayNothing s sought name (x ∷ entered) = (said_by s sought x.scope x name ≡ Some []) × SayNothing s sought name entered

abbrev pub Among : {A : Type 0} → A → List A → Type 0
Among x [] = ⊥
Among x (y ∷ ys) = (x ≡ y) ⊎ Among x ys

-- one comes from a class to another by these bases, each a direct base of the one before
abbrev pub Reaches : ScopeTables → ClassId → List ClassId → ClassId → Type 0
Reaches s c [] d = c ≡ d
Reaches s c (b ∷ path) d = Among b (bases_of s c) × Reaches s b path d

-- what counts of what a name means in a class itself
abbrev pub own_members : ScopeTables → Sought → List ℕ → ClassId → List Entity
own_members s sought name c = counted sought (meanings_at s (scope.Class c) name)

-- one comes from a class to another by these bases, through classes that say nothing themselves
abbrev pub ReachesThrough : ScopeTables → Sought → List ℕ → ClassId → List ClassId → ClassId → Type 0
ReachesThrough s sought name c [] d = c ≡ d
ReachesThrough s sought name c (b ∷ path) d = (own_members s sought name c ≡ []) × Among b (bases_of s c) × ReachesThrough s sought name b path d

-- the class comes to one that gives the name these meanings, hidden by no class on the way
abbrev pub ComesTo : ScopeTables → Sought → List ℕ → ClassId → List Entity → Type 0
ComesTo s sought name c es = (path : List ClassId) × (d : ClassId) × ReachesThrough s sought name c path d × (own_members s sought name d ≡ es)

-- the class comes to one around which that namespace is
abbrev pub Comes : ScopeTables → Tables → ClassId → ℕ → Type 0
Comes s t c n = (path : List ClassId) × (d : ClassId) × Reaches s c path d × (class_space s t d ≡ Some n)

-- what a pointer points to, and what an array is made of
abbrev pub through : TypeKind → Option TypeId
through (type.Pointer to) = Some to
through (type.Array of n) = Some of
through _ = None

-- so many steps through pointers and arrays lead from a type to another
abbrev pub LeadsTo : Tables → ℕ → TypeId → TypeId → Type 0
LeadsTo t zero id last = id ≡ last
LeadsTo t (suc n) id last = (to : TypeId) × (option_and_then (λ (r : TypeRow). through r.kind) (slice_get t.rows id.0) ≡ Some to) × LeadsTo t n to last

-- the namespaces of a class or enumeration itself
abbrev pub named_spaces : ScopeTables → Tables → TypeKind → List ℕ
named_spaces s t (type.Class c) = class_spaces s t (levels_of s) c
named_spaces s t (type.Enum e) = listed (enum_space s t e)
named_spaces s t _ = []
