-- Entering and leaving scopes, and declaring names ([basic.scope], [basic.scope.namespace]).
use Rattle.std.specs.Prelude.{ℕ, ◌+◌, ◌-◌, ◌^◌, ◌<◌, ◌==◌, List, [], ◌∷◌, ◌++◌, Option, None, Some, Result, Ok, Err, is_some, drop, if◌then◌else◌}
use Rattle.std.specs.Map.{lookup}
use Rattle.cx_type_defs.specs.declared.ids.TypeId.{TypeId}
use Rattle.cx_type_defs.specs.declared.ids.ClassId.{ClassId}
use Rattle.cx_type_defs.specs.declared.ids.EnumId.{EnumId}
use Rattle.cx_scopes.specs.declared.kinds.LookAnswer.{LookAnswer}
use Rattle.cx_scopes.specs.declared.kinds.LookAnswer.TheVariants.{Redeclared}
use Rattle.cx_scopes.specs.declared.kinds.ScopeId.{ScopeId}
use Rattle.cx_scopes.specs.declared.kinds.ScopeId.TheVariants as scope
use Rattle.cx_scopes.specs.declared.kinds.Entity.{Entity}
use Rattle.cx_scopes.specs.declared.kinds.Entity.TheVariants as entity
use Rattle.cx_scopes.specs.declared.kinds.ScopeKind.{ScopeKind}
use Rattle.cx_scopes.specs.declared.kinds.ScopeKind.TheVariants as kind
use Rattle.cx_scopes.specs.declared.entered.Entered.{Entered}
use Rattle.cx_scopes.specs.declared.kept.ClassScope.{ClassScope}
use Rattle.cx_scopes.specs.Names.{meanings, with_meaning, may_join, is_among}
use Rattle.cx_scopes.specs.Scopes.{ScopeTables, with_name, meanings_at, space_around, place_of}

-- what a name means in the present scope itself
abbrev pub own_meanings : Option ScopeId → List Entered → ScopeTables → List ℕ → List Entity
own_meanings (Some p) entered s name = meanings_at s p name
own_meanings None [] s name = []
own_meanings None (e ∷ entered) s name = meanings e.own name

abbrev pub present_meanings : ScopeTables → List ℕ → List Entity
present_meanings s name = own_meanings (place_of s.entered) s.entered s name

-- the types with one more, unless it is there
abbrev pub with_type : List (TypeId × ℕ) → TypeId → ℕ → List (TypeId × ℕ)
with_type types t n = if is_some (lookup (λ (u : TypeId). t.0 == u.0) types) then types else types ++ (t, n) ∷ []

-- the types, where an entity is declared in this place
abbrev pub types_with : List (TypeId × ℕ) → ScopeId → Entity → ℕ → List (TypeId × ℕ)
types_with types (scope.Enum id) e n = types
types_with types p (entity.Named t) n = with_type types t n
types_with types p _ n = types

-- the innermost scope's own names with one more meaning
abbrev pub with_own : List Entered → List ℕ → Entity → List Entered
with_own [] name e = []
with_own (x ∷ entered) name e = record x { own = with_meaning x.own name e } ∷ entered

-- the scopes with a declaration in this place, or in the innermost scope
abbrev pub with_declaration : Option ScopeId → ScopeTables → List ℕ → Entity → ScopeTables
with_declaration None s name e = record s { entered = with_own s.entered name e }
with_declaration (Some p) s name e = record s { tables = with_name s.tables p name e; types = types_with s.types p e (space_around s) }

abbrev pub joined_to : List Entity → Option ScopeId → ScopeTables → List ℕ → Entity → Result ScopeTables LookAnswer
joined_to es p s name e = if may_join e es then Ok (if is_among e es then s else with_declaration p s name e) else Err Redeclared

-- a declaration in a place, or in the innermost scope: refused where the name has a meaning there that can't stand
-- beside it; the same entity again adds nothing
abbrev pub declared_at : Option ScopeId → ScopeTables → List ℕ → Entity → Result ScopeTables LookAnswer
declared_at p s name e = joined_to (own_meanings p s.entered s name) p s name e

-- a declaration in the present scope
abbrev pub declared : ScopeTables → List ℕ → Entity → Result ScopeTables LookAnswer
declared s name e = declared_at (place_of s.entered) s name e

-- a declaration in the innermost namespace, also from inside a class, function or block
abbrev pub declared_in_space : ScopeTables → List ℕ → Entity → Result ScopeTables LookAnswer
declared_in_space s name e = declared_at (Some (scope.Space (space_around s))) s name e

-- one more scope is entered
abbrev pub with_entered : ScopeTables → ScopeKind → Option ScopeId → ℕ → ScopeTables
with_entered s k p n = record s { entered = record { kind = k; scope = p; space = n; own = [] } ∷ s.entered }

-- a namespace that comes new: the next number is drawn, and the name is declared as that namespace
abbrev pub with_space : ScopeTables → List ℕ → ScopeTables
with_space s name = record s { spaces = s.spaces + 1; tables = with_name s.tables (scope.Space (space_around s)) name (entity.Space (scope.Space s.spaces)) }

-- a namespace is entered, by what its name means in the innermost namespace
abbrev pub space_entered : List Entity → ScopeTables → List ℕ → Result ScopeTables LookAnswer
space_entered [] s name = Ok (with_entered (with_space s name) (kind.Namespace name) (Some (scope.Space s.spaces)) s.spaces)
space_entered (entity.Space (scope.Space n) ∷ es) s name = Ok (with_entered s (kind.Namespace name) (Some (scope.Space n)) n)
space_entered _ s name = Err Redeclared

-- a class's scope, unless it is there
abbrev pub with_class : List (ClassId × ClassScope) → ClassId → List ClassId → ℕ → List (ClassId × ClassScope)
with_class classes c bases n = if is_some (lookup (λ (d : ClassId). c.0 == d.0) classes) then classes else classes ++ (c, record { bases = bases; space = n }) ∷ []

-- an enumeration's scope, unless it is there
abbrev pub with_enum : List (EnumId × ℕ) → EnumId → ℕ → List (EnumId × ℕ)
with_enum enums e n = if is_some (lookup (λ (f : EnumId). e.0 == f.0) enums) then enums else enums ++ (e, n) ∷ []

-- a scope is entered: a namespace, class or enumeration that was entered before goes on, a function's or block's scope
-- is new each time
abbrev pub entered_with : ScopeTables → ScopeKind → Result ScopeTables LookAnswer
entered_with s (kind.Namespace name) = space_entered (meanings_at s (scope.Space (space_around s)) name) s name
entered_with s (kind.Class c bases) = Ok (with_entered (record s { classes = with_class s.classes c bases (space_around s) }) (kind.Class c bases) (Some (scope.Class c)) (space_around s))
entered_with s (kind.Enum e) = Ok (with_entered (record s { enums = with_enum s.enums e (space_around s) }) (kind.Enum e) (Some (scope.Enum e)) (space_around s))
entered_with s (kind.Function f) = Ok (with_entered s (kind.Function f) None (space_around s))
entered_with s kind.Block = Ok (with_entered s kind.Block None (space_around s))

-- a namespace that is there is entered again by its number
abbrev pub space_entered_by : ScopeTables → List ℕ → ℕ → ScopeTables
space_entered_by s name n = with_entered s (kind.Namespace name) (Some (scope.Space n)) n

-- the scope is a namespace
abbrev pub IsSpace : Option ScopeId → Type 0
IsSpace (Some (scope.Space n)) = Unit {0}
IsSpace _ = ⊥

-- a namespace is entered from a namespace ([namespace.def])
abbrev pub StandsInSpace : ScopeTables → ScopeKind → Type 0
StandsInSpace s (kind.Namespace name) = IsSpace (place_of s.entered)
StandsInSpace s _ = Unit {0}

-- a new namespace has a number to be drawn
abbrev pub HasRoom : ScopeTables → ScopeKind → Type 0
HasRoom s (kind.Namespace name) = s.spaces < 2 ^ 32 - 1
HasRoom s _ = Unit {0}

-- the innermost scope is left; a function's or block's takes its names with it
abbrev pub left : ScopeTables → ScopeTables
left s = record s { entered = drop 1 s.entered }
