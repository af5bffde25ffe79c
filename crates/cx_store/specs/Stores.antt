-- What the calls of a store say, in the words of the state of objects.
use Rattle.std.specs.Prelude.{◌≡◌, ℕ, ◌*◌, ◌<◌, ◌≤◌, Bool, true, false, not, [], length, Option, None, Some, Result, Ok, Err, is_some, unwrap_or, slice_get, option_map}
use Rattle.cx_base.specs.declared.rule.Rule.{Rule}
use Rattle.cx_base.specs.declared.limits.Limits.{Limits}
use Rattle.cx_type_defs.specs.declared.ids.TypeId.{TypeId}
use Rattle.cx_type_defs.specs.declared.kind.TypeRow.{TypeRow}
use Rattle.cx_type_defs.specs.declared.kind.TypeKind.{TypeKind}
use Rattle.cx_type_defs.specs.declared.kind.TypeKind.TheVariants as kind
use Rattle.cx_type_defs.specs.Tables.{Tables}
use Rattle.cx_type_defs.specs.Questions.{OfType, asked, cells_of, is_complete}
use Rattle.cx_state.specs.declared.kind.Kind.{Kind}
use Rattle.cx_state.specs.declared.kind.Birth.{Birth}
use Rattle.cx_state.specs.declared.kind.Scalar.{Scalar}
use Rattle.cx_state.specs.declared.kind.Scalar.TheVariants as scalar
use Rattle.cx_state.specs.declared.kind.Birth.TheVariants as birth
use Rattle.cx_state.specs.Objects.{Path, Object, Objects}
use Rattle.cx_state.specs.Places.{elements, row_part, row_of}
use Rattle.cx_state.specs.Pointers.{is_union_key, is_union_kind}
use Rattle.cx_state.specs.Forms.{HoldsValue, MayHold, Knows}
use Rattle.cx_store.specs.declared.store.RootView.{RootView}
use Rattle.cx_type_defs.specs.declared.ids.Step.TheVariants as step
use Rattle.cx_type_defs.specs.declared.ids.ClassId.{ClassId}
use Rattle.cx_type_defs.specs.declared.decl.ClassDecl.{ClassDecl}
use Rattle.cx_state.specs.Steps as steps
use Rattle.cx_state.specs.Counts as counts
use Rattle.cx_store.specs.declared.store.StoreAnswer.{StoreAnswer}
use Rattle.cx_store.specs.declared.store.StoreAnswer.TheVariants as answer

abbrev pub request : TypeId → Option ℕ → Kind → Bool → Birth → counts.Request
request ty count kind konst birth = record { ty = ty; count = count; kind = kind; konst = konst; birth = birth }

-- a type that has objects: it is complete, and so many of it have at most 2^30 cells
pub record IsWhole (t : Tables) (ty : TypeId) (count : Option ℕ) : Type 0 where
  pub complete : is_complete t ty ≡ true
  pub few : unwrap_or count 1 * unwrap_or (asked cells_of t (OfType ty)) 0 ≤ 1073741824

-- the places of the objects that there were have the paths that they had
abbrev pub KeepsPaths : {P : Type 0} → Objects → (P → Path) → (P → Path) → Type 0
KeepsPaths old before after = (p : _) → (before p).object < length old → after p ≡ before p

-- A new object and its place, or the limit's rule. `Memory` may come instead of the object, but not of a limit's rule: a
-- limit that would be passed is always told.
abbrev pub Made : {P : Type 0} → Tables → Limits → counts.Request → Objects → Objects → (P → Path) → Result P StoreAnswer → Type 0
Made t limits q old new path (Ok p) = (counts.make t limits old q ≡ Ok new) × (path p ≡ counts.next_place old)
Made t limits q old new path (Err (answer.Rule r)) = (counts.make t limits old q ≡ Err r) × (new ≡ old)
Made t limits q old new path (Err answer.Memory) = (counts.passed_limit t limits old q ≡ None) × (new ≡ old)

-- what a scalar holds, with each place seen as its path
abbrev pub seen : {P : Type 0} → (P → Path) → Scalar P → Scalar Path
seen path (scalar.Int i) = scalar.Int i
seen path scalar.Null = scalar.Null
seen path (scalar.Place p) = scalar.Place (path p)
seen path scalar.Indeterminate = scalar.Indeterminate

abbrev pub result_seen : {A B : Type 0} → (A → B) → Result A Rule → Result B Rule
result_seen f (Ok a) = Ok (f a)
result_seen f (Err r) = Err r

-- the type of what is at a place is so
abbrev pub IsOf : (TypeRow → Type 0) → Option TypeRow → Type 0
IsOf P None = ⊥
IsOf P (Some r) = P r

abbrev pub IsScalarAt : Tables → Objects → Path → Type 0
IsScalarAt t os p = IsOf (λ r. HoldsValue r.kind) (row_of t os p)

-- a class that isn't a union, and a union
abbrev pub is_class_kind : Tables → TypeKind → Bool
is_class_kind t (kind.Class c) = unwrap_or (option_map (λ (d : ClassDecl). not (is_union_key d.key)) (slice_get t.classes c.0)) false
is_class_kind t _ = false

abbrev pub IsClassAt : Tables → Objects → Path → Type 0
IsClassAt t os p = IsOf (λ r. is_class_kind t r.kind ≡ true) (row_of t os p)

abbrev pub IsUnionAt : Tables → Objects → Path → Type 0
IsUnionAt t os p = IsOf (λ r. is_union_kind t r.kind ≡ true) (row_of t os p)

-- it has that base or member, or the element or the end behind the last one
abbrev pub HasField : Tables → Objects → Path → ℕ → Type 0
HasField t os p i = IsOf (λ r. is_some (row_part t r (step.Field i)) ≡ true) (row_of t os p)

abbrev pub HasBase : Tables → Objects → Path → ℕ → Type 0
HasBase t os p i = IsOf (λ r. is_some (row_part t r (step.Base i)) ≡ true) (row_of t os p)

abbrev pub IsUpTo : ℕ → Option (ℕ × TypeId) → Type 0
IsUpTo i None = ⊥
IsUpTo i (Some e) = i ≤ e.0

abbrev pub HasElem : Tables → Objects → Path → ℕ → Type 0
HasElem t os p i = IsOf (λ r. IsUpTo i (elements r.kind)) (row_of t os p)

-- its type may hold that
abbrev pub MayTake : Tables → Objects → Path → Scalar Path → Type 0
MayTake t os p v = IsOf (λ r. MayHold t os r.kind v) (row_of t os p)

-- a step's new objects, or its rule with the objects as they were
abbrev pub Changed : Result Objects Rule → Objects → Objects → Result (Unit {0}) Rule → Type 0
Changed (Ok os) old new result = (result ≡ Ok tt) × (new ≡ os)
Changed (Err r) old new result = (result ≡ Err r) × (new ≡ old)

-- the object is there
abbrev pub IsPresent : Objects → Path → Type 0
IsPresent os p = p.object < length os

abbrev pub IsHereAt : Objects → Path → Type 0
IsHereAt os p = option_map (λ (o : Object). o.birth) (slice_get os p.object) ≡ Some birth.Here

-- what is told of an object
pub record IsView {P : Type 0} (path : P → Path) (p : Path) (o : Object) (v : RootView P) : Type 0 where
  pub place : path v.place ≡ record { object = p.object; steps = []; past = false }
  pub number : v.number ≡ p.object
  pub kind : v.kind ≡ o.kind
  pub birth : v.birth ≡ o.birth
  pub released : v.released ≡ o.released
  pub length : v.length ≡ o.count
  pub past : v.past ≡ p.past

abbrev pub Tells : {P : Type 0} → Objects → (P → Path) → P → RootView P → Type 0
Tells os path at v = (o : Object) → slice_get os (path at).object ≡ Some o → IsView path (path at) o v

-- the class and object that decide, or the first rule
abbrev pub Decides : {P : Type 0} → Tables → Objects → (P → Path) → P → Result (ClassId × P) Rule → Type 0
Decides t os path at result = result_seen (λ r. Some (r.0, path r.1)) result ≡ steps.dynamic_class t os (path at)

abbrev pub PathsBelow : {P : Type 0} → ℕ → (P → Path) → (P → Path) → Type 0
PathsBelow mark before after = (p : _) → (before p).object < mark → after p ≡ before p

-- no place that was known is lost, and what is there is of the type that it was of
pub record StillKnows (old new : Objects) : Type 0 where
  pub types : (t : Tables) (p : Path) (r : TypeRow) → row_of t old p ≡ Some r → row_of t new p ≡ Some r
  pub places : (t : Tables) (p : Path) → Knows t old p → Knows t new p

pub record StillKnowsBelow (mark : ℕ) (old new : Objects) : Type 0 where
  pub types : (t : Tables) (p : Path) (r : TypeRow) → p.object < mark → row_of t old p ≡ Some r → row_of t new p ≡ Some r
  pub places : (t : Tables) (p : Path) → p.object < mark → Knows t old p → Knows t new p
