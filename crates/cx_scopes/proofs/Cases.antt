-- Worked cases of declarations and lookups.
use Rattle.std.proofs.Common.{◌≡◌, ℕ, zero, suc, true, false, List, [], ◌∷◌, Result, Ok, Err, refl, codes}
use Rattle.cx_type_defs.specs.declared.ids.TypeId.{TypeId}
use Rattle.cx_type_defs.specs.declared.ids.ClassId.{ClassId}
use Rattle.cx_type_defs.specs.declared.kind.TypeKind.TheVariants as type
use Rattle.cx_type_defs.specs.declared.kind.TypeRow.{TypeRow}
use Rattle.cx_type_defs.specs.Tables.{Tables}
use Rattle.cx_type_defs.specs.Questions.{most_levels}
use Rattle.cx_type_defs.specs.Levels.{most_steps}
use Rattle.cx_scopes.specs.declared.kinds.LookAnswer.{LookAnswer}
use Rattle.cx_scopes.specs.declared.kinds.LookAnswer.TheVariants.{Ambiguous, Redeclared, Unknown}
use Rattle.cx_scopes.specs.declared.kinds.ScopeId.TheVariants as scope
use Rattle.cx_scopes.specs.declared.kinds.Entity.{Entity}
use Rattle.cx_scopes.specs.declared.kinds.Entity.TheVariants as entity
use Rattle.cx_scopes.specs.declared.kinds.ScopeKind.{ScopeKind}
use Rattle.cx_scopes.specs.declared.kinds.ScopeKind.TheVariants as kind
use Rattle.cx_scopes.specs.declared.kinds.Sought.TheVariants as sought
use Rattle.cx_scopes.specs.Scopes.{ScopeTables, no_scopes}
use Rattle.cx_scopes.specs.Steps.{declared, declared_in_space, entered_with, present_meanings, space_entered_by, left}
use Rattle.cx_scopes.specs.Lookup.{find_answer, find_as_answer, find_in_answer, find_in_as_answer, members}
use Rattle.cx_scopes.specs.Arguments.{by_args_answer, class_spaces, type_spaces}

abbrev after : Result ScopeTables LookAnswer → ScopeTables
after (Ok s) = s
after (Err e) = no_scopes

-- s with a scope entered, or with a declaration
abbrev entering : ScopeTables → ScopeKind → ScopeTables
entering s k = after (entered_with s k)

abbrev declaring : ScopeTables → List ℕ → Entity → ScopeTables
declaring s name e = after (declared s name e)

abbrev x : List ℕ
x = codes "x"

abbrev f : List ℕ
f = codes "f"

abbrev n : List ℕ
n = codes "N"

abbrev m : List ℕ
m = codes "M"

abbrev function : ℕ → Entity
function i = entity.Function (record { 0 = i })

abbrev variable : ℕ → Entity
variable i = entity.Variable (record { 0 = i })

abbrev class_id : ℕ → ClassId
class_id i = record { 0 = i }

abbrev field_of_class : ℕ → Entity
field_of_class i = entity.Field (class_id i) 0

-- `int x; { int x; ..`
abbrev two_blocks : ScopeTables
two_blocks = declaring (entering (declaring no_scopes x (variable 0)) kind.Block) x (variable 1)

inner_scope_hides : find_answer two_blocks x ≡ Ok (variable 1 ∷ [])
inner_scope_hides = refl

block_takes_its_names : find_answer (left two_blocks) x ≡ Ok (variable 0 ∷ [])
block_takes_its_names = refl

blocks_name_is_gone : find_answer (left (declaring (entering no_scopes kind.Block) x (variable 1))) x ≡ Err Unknown
blocks_name_is_gone = refl

outer_scope_is_seen : find_answer (entering two_blocks kind.Block) x ≡ Ok (variable 1 ∷ [])
outer_scope_is_seen = refl

-- `int x; int x;` of two variables
variable_redeclared : declared (declaring no_scopes x (variable 0)) x (variable 1) ≡ Err Redeclared
variable_redeclared = refl

same_variable_again : declared (declaring no_scopes x (variable 0)) x (variable 0) ≡ Ok (declaring no_scopes x (variable 0))
same_variable_again = refl

overloads_stand_together : find_answer (declaring (declaring no_scopes f (function 0)) f (function 1)) f ≡ Ok (function 0 ∷ function 1 ∷ [])
overloads_stand_together = refl

function_beside_variable : declared (declaring no_scopes f (function 0)) f (variable 0) ≡ Err Redeclared
function_beside_variable = refl

-- class 0 with a member x, entered and left
abbrev with_member : ScopeTables → ℕ → List ClassId → ScopeTables
with_member s i bases = left (declaring (entering s (kind.Class (class_id i) bases)) x (field_of_class i))

-- a class without members
abbrev without : ScopeTables → ℕ → List ClassId → ScopeTables
without s i bases = left (entering s (kind.Class (class_id i) bases))

member_hides_the_bases : find_in_answer (with_member (with_member no_scopes 0 []) 1 (class_id 0 ∷ [])) (scope.Class (class_id 1)) x ≡ Ok (field_of_class 1 ∷ [])
unfolding members
member_hides_the_bases = refl

base_gives_its_member : find_in_answer (without (with_member no_scopes 0 []) 1 (class_id 0 ∷ [])) (scope.Class (class_id 1)) x ≡ Ok (field_of_class 0 ∷ [])
unfolding members
base_gives_its_member = refl

-- class 2 has the bases 0 and 1, which both have an x
abbrev two_bases : ScopeTables
two_bases = without (with_member (with_member no_scopes 0 []) 1 []) 2 (class_id 0 ∷ class_id 1 ∷ [])

two_bases_differ : find_in_answer two_bases (scope.Class (class_id 2)) x ≡ Err Ambiguous
unfolding members
two_bases_differ = refl

-- an ambiguity in a class isn't passed over, though the global namespace has the name
ambiguity_is_told : find_answer (entering (declaring two_bases x (variable 0)) (kind.Class (class_id 2) (class_id 0 ∷ class_id 1 ∷ []))) x ≡ Err Ambiguous
unfolding members
ambiguity_is_told = refl

-- class 3 has the bases 1 and 2, which both have the base 0
abbrev diamond : ScopeTables
diamond = without (without (without (with_member no_scopes 0 []) 1 (class_id 0 ∷ [])) 2 (class_id 0 ∷ [])) 3 (class_id 1 ∷ class_id 2 ∷ [])

diamond_agrees : find_in_answer diamond (scope.Class (class_id 3)) x ≡ Ok (field_of_class 0 ∷ [])
unfolding members
diamond_agrees = refl

-- `namespace N { int x; } namespace N { ..`
abbrev gone_on : ScopeTables
gone_on = entering (left (declaring (entering no_scopes (kind.Namespace n)) x (variable 0))) (kind.Namespace n)

namespace_goes_on : find_answer gone_on x ≡ Ok (variable 0 ∷ [])
namespace_goes_on = refl

namespace_is_drawn_once : gone_on.spaces ≡ 2
namespace_is_drawn_once = refl

namespace_is_a_name : find_answer gone_on n ≡ Ok (entity.Space (scope.Space 1) ∷ [])
namespace_is_a_name = refl

namespace_named_as_variable : entered_with (declaring no_scopes n (variable 0)) (kind.Namespace n) ≡ Err Redeclared
namespace_named_as_variable = refl

-- types: class 1, an array of three of it, a pointer to that, enumeration 0, and class 2
abbrev types : Tables
types = record {
  rows = record { kind = type.Class (class_id 1); konst = false } ∷ record { kind = type.Array (record { 0 = 0 }) 3; konst = false } ∷ record { kind = type.Pointer (record { 0 = 1 }); konst = false }
      ∷ record { kind = type.Enum (record { 0 = 0 }); konst = true } ∷ record { kind = type.Class (class_id 2); konst = false } ∷ [];
  classes = [];
  enums = [];
}

abbrev type_id : ℕ → TypeId
type_id i = record { 0 = i }

-- `namespace N { class 0; f; enumeration 0; } namespace M { class 1 : class 0; f; class 2; }`, where class 2 is only named
abbrev two_spaces : ScopeTables
two_spaces =
    left (declaring (declaring (without
    (entering (left (left (entering (declaring (without (entering no_scopes (kind.Namespace n)) 0 []) f (function 0)) (kind.Enum (record { 0 = 0 }))))) (kind.Namespace m))
    1 (class_id 0 ∷ [])) f (function 1)) x (entity.Named (type_id 4)))

-- the namespace of the class comes first, and that of its base behind it
through_pointer_and_array : by_args_answer two_spaces types f (type_id 2 ∷ []) ≡ Ok (function 1 ∷ function 0 ∷ [])
unfolding class_spaces most_levels most_steps type_spaces
through_pointer_and_array = refl

enumerations_namespace : by_args_answer two_spaces types f (type_id 3 ∷ []) ≡ Ok (function 0 ∷ [])
unfolding class_spaces most_levels most_steps type_spaces
enumerations_namespace = refl

each_namespace_once : by_args_answer two_spaces types f (type_id 3 ∷ type_id 2 ∷ []) ≡ Ok (function 0 ∷ function 1 ∷ [])
unfolding class_spaces most_levels most_steps type_spaces
each_namespace_once = refl

class_that_is_only_named : by_args_answer two_spaces types f (type_id 4 ∷ []) ≡ Ok (function 1 ∷ [])
unfolding class_spaces most_levels most_steps type_spaces
class_that_is_only_named = refl

no_function_there : by_args_answer two_spaces types x (type_id 2 ∷ []) ≡ Err Unknown
unfolding class_spaces most_levels most_steps type_spaces
no_function_there = refl

-- a class in `namespace N`, with as many pointers to it as a type may have levels, and the function f there
abbrev pointers : ℕ → List TypeRow
pointers zero = record { kind = type.Class (class_id 0); konst = false } ∷ []
pointers (suc i) = record { kind = type.Pointer (type_id i); konst = false } ∷ pointers i

abbrev turned : List TypeRow → List TypeRow → List TypeRow
turned [] done = done
turned (r ∷ rows) done = turned rows (r ∷ done)

abbrev deep : Tables
deep = record { rows = turned (pointers 512) []; classes = []; enums = [] }

-- `f(p)` for a pointer of 512 levels, from outside the namespace
deepest_pointer : by_args_answer (left (declaring (without (entering no_scopes (kind.Namespace n)) 0 []) f (function 0))) deep f (type_id 512 ∷ []) ≡ Ok (function 0 ∷ [])
unfolding class_spaces most_levels most_steps type_spaces
deepest_pointer = refl

-- `namespace N { constexpr int x = 3; } constexpr int f(int N) { return N::x + N; }`
abbrev parameter_named_as_space : ScopeTables
parameter_named_as_space = declaring (entering (left (declaring (entering no_scopes (kind.Namespace n)) x (variable 0))) (kind.Function (record { 0 = 0 }))) n (variable 1)

space_before_colons : find_as_answer parameter_named_as_space sought.Qualifier n ≡ Ok (entity.Space (scope.Space 1) ∷ [])
space_before_colons = refl

parameter_elsewhere : find_answer parameter_named_as_space n ≡ Ok (variable 1 ∷ [])
parameter_elsewhere = refl

variable_is_no_qualifier : find_in_as_answer parameter_named_as_space sought.Qualifier (scope.Space 1) x ≡ Err Unknown
variable_is_no_qualifier = refl

-- a class has a function f, and so has the global namespace
abbrev in_class_with_operator : ScopeTables
in_class_with_operator = declaring (entering (declaring no_scopes f (function 0)) (kind.Class (class_id 0) [])) f (function 1)

class_members_are_passed_over : find_as_answer in_class_with_operator sought.NonMember f ≡ Ok (function 0 ∷ [])
class_members_are_passed_over = refl

class_members_are_found_else : find_answer in_class_with_operator f ≡ Ok (function 1 ∷ [])
unfolding members
class_members_are_found_else = refl

-- `enum x : int;` in a block, where the block has no x and the scope around it has
present_scope_alone : present_meanings (entering (declaring no_scopes x (variable 0)) kind.Block) x ≡ []
present_scope_alone = refl

-- `namespace N { int f() { struct x* p; .. } }` declares the class in the namespace
abbrev from_a_block : ScopeTables
from_a_block = after (declared_in_space (entering (entering (entering no_scopes (kind.Namespace n)) (kind.Function (record { 0 = 0 }))) kind.Block) x (entity.Named (type_id 0)))

declared_around_a_block : find_in_answer from_a_block (scope.Space 1) x ≡ Ok (entity.Named (type_id 0) ∷ [])
declared_around_a_block = refl

found_from_the_block : find_answer from_a_block x ≡ Ok (entity.Named (type_id 0) ∷ [])
found_from_the_block = refl

-- `namespace N { int x; int f(); } int N::f() { return x; }`
entered_by_its_number : find_answer (entering (space_entered_by (left (declaring (entering no_scopes (kind.Namespace n)) x (variable 0))) n 1) (kind.Function (record { 0 = 0 }))) x ≡ Ok (variable 0 ∷ [])
entered_by_its_number = refl
