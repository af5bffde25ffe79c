-- What a program has, and that its scopes name nothing else.
use Rattle.std.specs.Prelude.{ℕ, ◌<◌, ◌≤◌, List, [], ◌∷◌, Result, Ok, Err}
use Rattle.cx_type_defs.specs.declared.ids.TypeId.{TypeId}
use Rattle.cx_type_defs.specs.declared.ids.ClassId.{ClassId}
use Rattle.cx_type_defs.specs.declared.ids.EnumId.{EnumId}
use Rattle.cx_scopes.specs.declared.kinds.LookAnswer.{LookAnswer}
use Rattle.cx_scopes.specs.declared.kinds.ScopeId.{ScopeId}
use Rattle.cx_scopes.specs.declared.kinds.ScopeId.TheVariants as scope
use Rattle.cx_scopes.specs.declared.kinds.Entity.{Entity}
use Rattle.cx_scopes.specs.declared.kinds.Entity.TheVariants as entity
use Rattle.cx_scopes.specs.declared.entered.Entered.{Entered}
use Rattle.cx_scopes.specs.Names.{meanings}
use Rattle.cx_scopes.specs.Scopes.{ScopeTables, meanings_at}

-- how many of each a program has: of classes that aren't complete the members so far, and of enumerations whose list
-- hasn't ended the enumerators so far
pub record Counts : Type 0 where
  pub functions : ℕ
  pub variables : ℕ
  pub types : ℕ
  pub fields : ClassId → ℕ
  pub enumerators : EnumId → ℕ

-- a program has grown
pub record HasMore (old now : Counts) : Type 0 where
  pub more_functions : old.functions ≤ now.functions
  pub more_variables : old.variables ≤ now.variables
  pub more_types : old.types ≤ now.types
  pub more_fields : (c : ClassId) → old.fields c ≤ now.fields c
  pub more_enumerators : (e : EnumId) → old.enumerators e ≤ now.enumerators e

-- the program, with so many namespaces, has what is meant
abbrev pub Has : Counts → ℕ → Entity → Type 0
Has p spaces (entity.Function f) = f.0 < p.functions
Has p spaces (entity.Variable v) = v.0 < p.variables
Has p spaces (entity.Field c i) = i < p.fields c
Has p spaces (entity.Enumerator e i) = i < p.enumerators e
Has p spaces (entity.Named t) = t.0 < p.types
Has p spaces (entity.Space (scope.Space n)) = n < spaces
Has p spaces (entity.Space _) = ⊥

abbrev pub HasEach : Counts → ℕ → List Entity → Type 0
HasEach p spaces [] = Unit {0}
HasEach p spaces (e ∷ es) = Has p spaces e × HasEach p spaces es

-- of the functions and blocks that are entered
abbrev pub HasOwn : Counts → ℕ → List Entered → Type 0
HasOwn p spaces [] = Unit {0}
HasOwn p spaces (x ∷ entered) = ((name : List ℕ) → HasEach p spaces (meanings x.own name)) × HasOwn p spaces entered

abbrev pub HasTypes : Counts → List (TypeId × ℕ) → Type 0
HasTypes p [] = Unit {0}
HasTypes p (x ∷ types) = (x.0.0 < p.types) × HasTypes p types

-- the scopes name what the program has: each meaning of each name in a namespace, class or enumeration and in a function
-- or block that is entered, and each type that is kept
pub record NamesWhatIs (p : Counts) (s : ScopeTables) : Type 0 where
  pub places : (q : ScopeId) (name : List ℕ) → HasEach p s.spaces (meanings_at s q name)
  pub own : HasOwn p s.spaces s.entered
  pub types : HasTypes p s.types

-- what a lookup gives, the program has
abbrev pub HasFound : Counts → ℕ → Result (List Entity) LookAnswer → Type 0
HasFound p spaces (Ok es) = HasEach p spaces es
HasFound p spaces (Err e) = Unit {0}
