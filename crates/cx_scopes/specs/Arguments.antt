-- The lookup of a function's name by its arguments ([basic.lookup.argdep]).
use Rattle.std.specs.Prelude.{◌≡◌, ℕ, zero, suc, ◌<◌, Bool, false, ◌==◌, List, [], ◌∷◌, ◌++◌, Option, None, Some, Result, filter, option_map, slice_get, length, if◌then◌else◌}
use Rattle.std.specs.List.{flat_map, list_any}
use Rattle.std.specs.Map.{lookup}
use Rattle.std.specs.Option.{option_map_or}
use Rattle.cx_type_defs.specs.declared.ids.TypeId.{TypeId}
use Rattle.cx_type_defs.specs.declared.ids.ClassId.{ClassId}
use Rattle.cx_type_defs.specs.declared.ids.EnumId.{EnumId}
use Rattle.cx_type_defs.specs.declared.kind.TypeRow.{TypeRow}
use Rattle.cx_type_defs.specs.declared.kind.TypeKind.{TypeKind}
use Rattle.cx_type_defs.specs.declared.kind.TypeKind.TheVariants as type
use Rattle.cx_type_defs.specs.Tables.{Tables}
use Rattle.cx_type_defs.specs.Levels.{most_steps}
use Rattle.cx_scopes.specs.declared.kinds.LookAnswer.{LookAnswer}
use Rattle.cx_scopes.specs.declared.kinds.ScopeId.{ScopeId}
use Rattle.cx_scopes.specs.declared.kinds.ScopeId.TheVariants as scope
use Rattle.cx_scopes.specs.declared.kinds.Entity.{Entity}
use Rattle.cx_scopes.specs.declared.kept.ClassScope.{ClassScope}
use Rattle.cx_scopes.specs.Names.{is_function}
use Rattle.cx_scopes.specs.Scopes.{ScopeTables, meanings_at, class_scope, bases_of}
use Rattle.cx_scopes.specs.Lookup.{answer_of, levels_of}

-- the type is that class or enumeration, const aside
abbrev pub is_of_scope : ScopeId → TypeKind → Bool
is_of_scope (scope.Class c) (type.Class d) = c.0 == d.0
is_of_scope (scope.Enum e) (type.Enum f) = e.0 == f.0
is_of_scope _ _ = false

-- the namespace around the first declaration that names the class or enumeration as a type
abbrev pub named_space : ScopeId → Tables → List (TypeId × ℕ) → Option ℕ
named_space p t [] = None
named_space p t (x ∷ xs) = if option_map_or (λ (r : TypeRow). is_of_scope p r.kind) (slice_get t.rows x.0.0) false then Some x.1 else named_space p t xs

-- the first, or where there is none, the other
abbrev pub first_of : Option ℕ → Option ℕ → Option ℕ
first_of (Some n) other = Some n
first_of None other = other

-- the innermost namespace around a class or enumeration: around its scope where it was entered, else around its first
-- declaration
abbrev pub class_space : ScopeTables → Tables → ClassId → Option ℕ
class_space s t c = first_of (option_map (λ (k : ClassScope). k.space) (class_scope s c)) (named_space (scope.Class c) t s.types)

abbrev pub enum_space : ScopeTables → Tables → EnumId → Option ℕ
enum_space s t e = first_of (lookup (λ (f : EnumId). e.0 == f.0) s.enums) (named_space (scope.Enum e) t s.types)

abbrev pub listed : Option ℕ → List ℕ
listed None = []
listed (Some n) = n ∷ []

-- the namespaces around a class, and around its bases, looking so many levels deep
unfoldable pub class_spaces : ScopeTables → Tables → ℕ → ClassId → List ℕ
class_spaces s t zero c = listed (class_space s t c)
class_spaces s t (suc levels) c = listed (class_space s t c) ++ flat_map (class_spaces s t levels) (bases_of s c)

abbrev pub kind_spaces : ScopeTables → Tables → (TypeId → List ℕ) → TypeKind → List ℕ
kind_spaces s t below (type.Class c) = class_spaces s t (levels_of s) c
kind_spaces s t below (type.Enum e) = listed (enum_space s t e)
kind_spaces s t below (type.Pointer to) = below to
kind_spaces s t below (type.Array of n) = below of
kind_spaces s t below _ = []

-- the namespaces of a type, looking through so many pointers and arrays
unfoldable pub type_spaces : ScopeTables → Tables → ℕ → TypeId → List ℕ
type_spaces s t zero id = []
type_spaces s t (suc levels) id = option_map_or (λ (r : TypeRow). kind_spaces s t (type_spaces s t levels) r.kind) (slice_get t.rows id.0) []

-- each once, in order of first mention, behind those that are there
abbrev pub with_space_once : List ℕ → ℕ → List ℕ
with_space_once ns n = if list_any (λ m. n == m) ns then ns else ns ++ n ∷ []

abbrev pub with_spaces : List ℕ → List ℕ → List ℕ
with_spaces ns [] = ns
with_spaces ns (m ∷ ms) = with_spaces (with_space_once ns m) ms

-- the associated namespaces of the arguments; no chain of pointers and arrays has more types
abbrev pub associated : ScopeTables → Tables → List TypeId → List ℕ
associated s t args = with_spaces [] (flat_map (type_spaces s t most_steps) args)

-- the functions with this name in a namespace
abbrev pub functions_in : ScopeTables → List ℕ → ℕ → List Entity
functions_in s name n = filter is_function (meanings_at s (scope.Space n) name)

abbrev pub by_args_answer : ScopeTables → Tables → List ℕ → List TypeId → Result (List Entity) LookAnswer
by_args_answer s t name args = answer_of (Some (flat_map (functions_in s name) (associated s t args)))

-- the arguments are types of the tables
abbrev pub ArgsKnown : Tables → List TypeId → Type 0
ArgsKnown t args = (i : ℕ) (id : TypeId) → slice_get args i ≡ Some id → id.0 < length t.rows

-- the types that declarations name are types of the tables
abbrev pub NamesKnown : ScopeTables → Tables → Type 0
NamesKnown s t = (i : ℕ) (x : TypeId × ℕ) → slice_get s.types i ≡ Some x → x.0.0 < length t.rows
