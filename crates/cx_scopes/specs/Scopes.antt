-- Scopes and declarations as plain data ([basic.scope]).
use Rattle.std.specs.Prelude.{ℕ, ◌==◌, List, [], ◌∷◌, Option, Some, option_map, slice_get, unwrap_or, if◌then◌else◌}
use Rattle.std.specs.Map.{lookup}
use Rattle.std.specs.Option.{option_map_or}
use Rattle.cx_type_defs.specs.declared.ids.TypeId.{TypeId}
use Rattle.cx_type_defs.specs.declared.ids.ClassId.{ClassId}
use Rattle.cx_type_defs.specs.declared.ids.EnumId.{EnumId}
use Rattle.cx_scopes.specs.declared.kinds.ScopeId.{ScopeId}
use Rattle.cx_scopes.specs.declared.kinds.ScopeId.TheVariants as scope
use Rattle.cx_scopes.specs.declared.kinds.Entity.{Entity}
use Rattle.cx_scopes.specs.declared.kinds.ScopeKind.{ScopeKind}
use Rattle.cx_scopes.specs.declared.entered.Entered.{Entered}
use Rattle.cx_scopes.specs.declared.kept.ClassScope.{ClassScope}
use Rattle.cx_scopes.specs.Names.{Names, meanings, with_meaning, same_scope}

pub record ScopeTables : Type 0 where
  -- how many namespaces there are; they are numbered from 0, the global one
  pub spaces : ℕ
  -- the names of each namespace, class and enumeration that has some
  pub tables : List (ScopeId × Names)
  -- each class that was entered: its direct bases in order, and the innermost namespace around it
  pub classes : List (ClassId × ClassScope)
  -- each enumeration that was entered, with the innermost namespace around it
  pub enums : List (EnumId × ℕ)
  -- each type that a declaration in a namespace or class names, in order, with the innermost namespace around the
  -- first such declaration
  pub types : List (TypeId × ℕ)
  -- the scopes that are entered and not left, innermost first, without the global namespace
  pub entered : List Entered

-- the global namespace alone
abbrev pub no_scopes : ScopeTables
no_scopes = record { spaces = 1; tables = []; classes = []; enums = []; types = []; entered = [] }

abbrev pub global : ScopeId
global = scope.Space 0

-- the names that stand in a namespace, class or enumeration
abbrev pub names_at : List (ScopeId × Names) → ScopeId → Names
names_at tables p = unwrap_or (lookup (same_scope p) tables) []

-- the tables with one more meaning of a name there
abbrev pub with_name : List (ScopeId × Names) → ScopeId → List ℕ → Entity → List (ScopeId × Names)
with_name [] p name e = (p, with_meaning [] name e) ∷ []
with_name (table ∷ tables) p name e = if same_scope p table.0 then (table.0, with_meaning table.1 name e) ∷ tables else table ∷ with_name tables p name e

-- what a name means in a namespace, class or enumeration, bases aside
abbrev pub meanings_at : ScopeTables → ScopeId → List ℕ → List Entity
meanings_at s p name = meanings (names_at s.tables p) name

abbrev pub class_scope : ScopeTables → ClassId → Option ClassScope
class_scope s c = lookup (λ d. c.0 == d.0) s.classes

-- the direct bases that a class's scope keeps; a class that was never entered has none
abbrev pub bases_of : ScopeTables → ClassId → List ClassId
bases_of s c = option_map_or (λ (k : ClassScope). k.bases) (class_scope s c) []

-- the innermost namespace around a scope that is entered, or the namespace itself
abbrev pub space_by : Option ScopeId → ℕ → ℕ
space_by (Some (scope.Space n)) around = n
space_by _ around = around

abbrev pub innermost : List Entered → ℕ
innermost [] = 0
innermost (e ∷ entered) = space_by e.scope e.space

-- the innermost namespace that is entered
abbrev pub space_around : ScopeTables → ℕ
space_around s = innermost s.entered

-- the present scope: a namespace, class or enumeration; None for a function's or a block's
abbrev pub place_of : List Entered → Option ScopeId
place_of [] = Some global
place_of (e ∷ entered) = e.scope

-- the kind of the i-th scope that is entered and not left, from 0 at the innermost
abbrev pub kind_around : ScopeTables → ℕ → Option ScopeKind
kind_around s i = option_map (λ (e : Entered). e.kind) (slice_get s.entered i)
