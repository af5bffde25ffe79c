-- The types that the worked cases speak of, and short names for objects, places and values.
use Rattle.std.proofs.Common.{ℕ, Bool, true, false, List, [], ◌∷◌, Option, None, Some, Result, Ok, Err, ℤ, pos}
use Rattle.std.specs.Prelude.{map}
use Rattle.cx_base.specs.declared.rule.Rule.{Rule}
use Rattle.cx_base.specs.declared.limits.Limits.{Limits}
use Rattle.cx_base.specs.declared.diag.Mark.{Mark}
use Rattle.cx_base.specs.declared.int_type.IntType.TheVariants as int
use Rattle.cx_type_defs.specs.declared.ids.Step.{Step}
use Rattle.cx_type_defs.specs.declared.ids.Step.TheVariants as step
use Rattle.cx_type_defs.specs.declared.ids.TypeId.{TypeId}
use Rattle.cx_type_defs.specs.declared.ids.ClassId.{ClassId}
use Rattle.cx_type_defs.specs.declared.kind.TypeRow.{TypeRow}
use Rattle.cx_type_defs.specs.declared.kind.TypeKind.{TypeKind}
use Rattle.cx_type_defs.specs.declared.kind.TypeKind.TheVariants as kind
use Rattle.cx_type_defs.specs.declared.decl.ClassKey.{ClassKey}
use Rattle.cx_type_defs.specs.declared.decl.ClassKey.TheVariants as key
use Rattle.cx_type_defs.specs.declared.decl.ClassFlags.{ClassFlags}
use Rattle.cx_type_defs.specs.declared.decl.ClassDecl.{ClassDecl}
use Rattle.cx_type_defs.specs.declared.decl.Field.{Field}
use Rattle.cx_type_defs.specs.Tables.{Tables}
use Rattle.cx_state.specs.declared.kind.Kind.TheVariants as made
use Rattle.cx_state.specs.declared.kind.Birth.{Birth}
use Rattle.cx_state.specs.declared.kind.Birth.TheVariants as birth
use Rattle.cx_state.specs.declared.kind.Phase.{Phase}
use Rattle.cx_state.specs.declared.kind.Phase.TheVariants as phase
use Rattle.cx_state.specs.declared.kind.Scalar.{Scalar}
use Rattle.cx_state.specs.declared.kind.Scalar.TheVariants as scalar
use Rattle.cx_state.specs.Objects.{Path, Tree, Object, Objects}
use Rattle.cx_state.specs.Steps.{activate, deactivate, load, init, store, release, advance, to_elem, outer, dynamic_class}
use Rattle.cx_state.specs.Pointers.{add, equal, less, distance}
use Rattle.cx_state.specs.Counts.{Request, make}

-- the tables

abbrev ty : ℕ → TypeId
ty n = record { 0 = n }

abbrev class : ℕ → ClassId
class n = record { 0 = n }

abbrev row : TypeKind → TypeRow
row k = record { kind = k; konst = false }

abbrev const_row : TypeKind → TypeRow
const_row k = record { kind = k; konst = true }

abbrev here : Mark
here = record { byte = 0; line = 1; col = 1 }

abbrev member : TypeId → Field
member t = record { name = []; ty = t; at = record { start = here; end = here }; init = None }

abbrev flags : ClassFlags
flags = record { aggregate = true; constexpr_ctor = false; constexpr_dtor = true; trivial_ctor = true; trivial_copy = true; trivial_dtor = true; virtual_dtor = false; has_virtual = false }

abbrev body : ClassKey → List ClassId → List Field → ClassDecl
body k bs fs = record { name = []; key = k; body = Some (record { bases = bs; fields = fs; slots = []; pures = []; flags = flags }) }

abbrev pub base_class : ClassId
base_class = class 3

abbrev pub middle_class : ClassId
middle_class = class 4

abbrev pub derived_class : ClassId
derived_class = class 5

abbrev pub fixed_class : ClassId
fixed_class = class 6

abbrev pub either_class : ClassId
either_class = class 8

abbrev pub int_type : TypeId
int_type = ty 0

abbrev pub const_int : TypeId
const_int = ty 1

abbrev pub inner_union : TypeId
inner_union = ty 2

abbrev pub outer_union : TypeId
outer_union = ty 3

abbrev pub holder : TypeId
holder = ty 4

abbrev pub most_derived : TypeId
most_derived = ty 5

abbrev pub fixed : TypeId
fixed = ty 6

abbrev pub const_fixed : TypeId
const_fixed = ty 7

abbrev pub whole : TypeId
whole = ty 8

abbrev pub either : TypeId
either = ty 9

abbrev pub three_ints : TypeId
three_ints = ty 10

abbrev pub two_rows : TypeId
two_rows = ty 11

abbrev pub const_ints : TypeId
const_ints = ty 12

abbrev pub const_union : TypeId
const_union = ty 13

abbrev pub text : TypeId
text = ty 14

abbrev pub const_char : TypeId
const_char = ty 15

abbrev pub nothing_type : TypeId
nothing_type = ty 16

abbrev pub base_type : TypeId
base_type = ty 17

abbrev pub four_ints : TypeId
four_ints = ty 18

abbrev pub int_pointer : TypeId
int_pointer = ty 19

abbrev pub const_int_pointer : TypeId
const_int_pointer = ty 20

-- union V { int w; int x; }; union U { int k; V v; }; struct O { U u; }; struct Base { int b; }; struct Middle : Base { int m; };
-- struct Derived : Middle { int d; }; struct Fixed { const int c; int i; }; struct Whole { const Fixed f; Fixed g; };
-- union Either { Fixed f; int n; };
abbrev pub sample : Tables
sample = record {
  rows = row (kind.Int int.Int) ∷ const_row (kind.Int int.Int) ∷ row (kind.Class (class 0)) ∷ row (kind.Class (class 1)) ∷ row (kind.Class (class 2)) ∷ row (kind.Class (class 5))
      ∷ row (kind.Class (class 6)) ∷ const_row (kind.Class (class 6)) ∷ row (kind.Class (class 7)) ∷ row (kind.Class (class 8)) ∷ row (kind.Array int_type 3) ∷ row (kind.Array three_ints 2)
      ∷ const_row (kind.Array int_type 3) ∷ const_row (kind.Class (class 1)) ∷ row (kind.Array const_char 3) ∷ const_row (kind.Int int.Char)
      ∷ row kind.Void ∷ row (kind.Class (class 3)) ∷ row (kind.Array int_type 4) ∷ row (kind.Pointer int_type) ∷ row (kind.Pointer const_int) ∷ [];
  classes = body key.Union [] (member int_type ∷ member int_type ∷ []) ∷ body key.Union [] (member int_type ∷ member inner_union ∷ []) ∷ body key.Struct [] (member outer_union ∷ [])
      ∷ body key.Struct [] (member int_type ∷ []) ∷ body key.Struct (class 3 ∷ []) (member int_type ∷ []) ∷ body key.Struct (class 4 ∷ []) (member int_type ∷ [])
      ∷ body key.Struct [] (member const_int ∷ member int_type ∷ []) ∷ body key.Struct [] (member const_fixed ∷ member fixed ∷ []) ∷ body key.Union [] (member fixed ∷ member int_type ∷ []) ∷ [];
  enums = [];
}

-- values, steps and places

abbrev pub whole_number : ℕ → Scalar Path
whole_number n = scalar.Int (record { ty = int.Int; value = pos n })

abbrev pub base : ℕ → Step
base i = step.Base i

abbrev pub field : ℕ → Step
field i = step.Field i

abbrev pub elem : ℕ → Step
elem i = step.Elem i

abbrev pub in_object : ℕ → List Step → Path
in_object n ss = record { object = n; steps = ss; past = false }

abbrev pub past_in : ℕ → List Step → Path
past_in n ss = record { object = n; steps = ss; past = true }

-- the place at these steps in the first object, and the place past it
abbrev pub place : List Step → Path
place ss = in_object 0 ss

abbrev pub past : List Step → Path
past ss = past_in 0 ss

-- objects

abbrev pub ample : Limits
ample = record { depth = 512; exprs = 1000; turns = 1000; cells = 1000; objects = 1000 }

abbrev pub of_type : TypeId → Request
of_type t = record { ty = t; count = None; kind = made.Auto; konst = false; birth = birth.Here }

abbrev pub many_of : TypeId → ℕ → Request
many_of t n = record { ty = t; count = Some n; kind = made.HeapArray; konst = false; birth = birth.Here }

abbrev pub const_of : TypeId → Request
const_of t = record { ty = t; count = None; kind = made.Auto; konst = true; birth = birth.Here }

abbrev pub literal : Request
literal = record { ty = text; count = None; kind = made.Literal; konst = true; birth = birth.Usable }

abbrev pub born : Birth → TypeId → Request
born b t = record { ty = t; count = None; kind = made.Static; konst = false; birth = b }

-- steps on objects, one after the other, as long as no rule is broken

abbrev pub Move : Type 0
Move = Objects → Result Objects Rule

abbrev pub ask : {A : Type 0} → (Objects → Result A Rule) → Result Objects Rule → Result A Rule
ask f (Ok os) = f os
ask f (Err r) = Err r

abbrev pub moved : List Move → Result Objects Rule → Result Objects Rule
moved [] before = before
moved (f ∷ fs) before = moved fs (ask f before)

abbrev pub makes : Request → Move
makes q = λ os. make sample ample os q

-- objects made one after the other, within limits
abbrev pub make_all : Limits → Objects → List Request → Result Objects Rule
make_all limits os [] = Ok os
make_all limits os (q ∷ qs) = ask (λ now. make_all limits now qs) (make sample limits os q)

-- what the moves make of no objects
abbrev pub after : List Move → Result Objects Rule
after fs = moved fs (Ok [])

abbrev pub inits : List Step → ℕ → Move
inits ss n = λ os. init sample os (place ss) (whole_number n)

abbrev pub stores : List Step → ℕ → Move
stores ss n = λ os. store sample os (place ss) (whole_number n)

abbrev pub activates : List Step → ℕ → Move
activates ss m = λ os. activate sample os (place ss) m true

abbrev pub deactivates : List Step → Move
deactivates ss = λ os. deactivate sample os (place ss)

abbrev pub advances : List Step → Phase → Move
advances ss to = λ os. advance sample os (place ss) to

abbrev pub releases : ℕ → Move
releases n = λ os. release os (in_object n [])

-- a class comes to life, and its life ends
abbrev pub begins : List Step → Move
begins ss = λ os. moved (advances ss phase.Bases ∷ advances ss phase.Body ∷ advances ss phase.Alive ∷ []) (Ok os)

abbrev pub ends : List Step → Move
ends ss = λ os. moved (advances ss phase.Ending ∷ advances ss phase.EndingBases ∷ advances ss phase.Ended ∷ []) (Ok os)

-- questions

abbrev pub trees_of : Objects → Result (List Tree) Rule
trees_of os = Ok (map (λ (o : Object). o.tree) os)

abbrev pub loads : Path → Objects → Result (Scalar Path) Rule
loads p os = load sample os p

abbrev pub adds : Path → ℤ → Objects → Result Path Rule
adds p by os = add sample os p by

abbrev pub compares : Path → Path → Objects → Result Bool Rule
compares p q os = equal sample os p q

abbrev pub orders : Path → Path → Objects → Result Bool Rule
orders p q os = less sample os p q

abbrev pub measures : Path → Path → Objects → Result ℤ Rule
measures p q os = distance os p q

abbrev pub elems : Path → ℕ → Objects → Result Path Rule
elems p i os = to_elem sample os p i

abbrev pub dynamics : Path → Objects → Result (Option (ClassId × Path)) Rule
dynamics p os = dynamic_class sample os p

abbrev pub outers : Path → ClassId → Objects → Result Path Rule
outers p c os = outer sample os p c
