-- What each step on objects answers: the first rule that it breaks, or what it finds, or the objects with exactly one
-- thing changed ([basic.life], [class.union], [expr.ass], [dcl.init]).
use Rattle.std.specs.Prelude.{ℕ, ◌==◌, Bool, true, false, ◌&&◌, not, List, [], ◌∷◌, ◌++◌, take, Option, None, Some, Result, Ok, Err, unwrap_or, slice_get, option_and_then, option_map, if◌then◌else◌}
use Rattle.cx_base.specs.declared.rule.Rule.{Rule}
use Rattle.cx_type_defs.specs.declared.ids.Step.{Step}
use Rattle.cx_type_defs.specs.declared.ids.Step.TheVariants as step
use Rattle.cx_type_defs.specs.declared.ids.TypeId.{TypeId}
use Rattle.cx_type_defs.specs.declared.ids.ClassId.{ClassId}
use Rattle.cx_type_defs.specs.declared.kind.TypeRow.{TypeRow}
use Rattle.cx_type_defs.specs.declared.decl.Field.{Field}
use Rattle.cx_type_defs.specs.Tables.{Tables, no_types, field_of, changed_at}
use Rattle.cx_type_defs.specs.Questions.{Question, Always, OfType, asked, by_key}
use Rattle.cx_state.specs.declared.kind.Birth.{Birth}
use Rattle.cx_state.specs.declared.kind.Phase.{Phase}
use Rattle.cx_state.specs.declared.kind.Phase.TheVariants as phase
use Rattle.cx_state.specs.declared.kind.Scalar.{Scalar}
use Rattle.cx_state.specs.declared.kind.Scalar.TheVariants as scalar
use Rattle.cx_state.specs.Objects.{Path, Tree, Trees, Leaf, Row, Class, Union, Active, End, More, trees, copies, Object, Objects, at, put}
use Rattle.cx_state.specs.Places.{elements, row_of}
use Rattle.cx_state.specs.Conditions as on

-- what is answered where no rule is broken
abbrev pub unless : {A : Type 0} → Option Rule → A → Result A Rule
unless None a = Ok a
unless (Some r) a = Err r

-- new trees

-- A new tree of a type: its scalars are indeterminate, its classes in one phase, its unions without active member.
abbrev pub blank : Tree
blank = Leaf scalar.Indeterminate

abbrev pub new_in : Phase → Question Tree
new_in p = record {
  of_void = None;
  of_scalar = λ _. blank;
  of_enum = Always blank;
  of_address = Always blank;
  of_array = λ n x. Row (copies n x);
  of_class = λ k _ bases members. by_key k Union (Class p (trees bases) (trees members));
}

abbrev pub new_tree : Tables → Phase → TypeId → Tree
new_tree t p ty = unwrap_or (asked (new_in p) t (OfType ty)) blank

-- the same of what a tree was, where its lifetime and all in it have ended
abbrev mutual
  pub ended : Tree → Tree
  ended (Leaf v) = blank
  ended (Row xs) = Row (all_ended xs)
  ended (Class p bases members) = Class phase.Ended (all_ended bases) (all_ended members)
  ended Union = Union
  ended (Active m x) = Union

  pub all_ended : Trees → Trees
  all_ended End = End
  all_ended (More x xs) = More (ended x) (all_ended xs)

-- places of parts

abbrev pub deeper : Path → Step → Bool → Path
deeper p s past = record { object = p.object; steps = p.steps ++ s ∷ []; past = past }

abbrev pub to_field : Tables → Objects → Path → ℕ → Result Path Rule
to_field t os p i = unless (on.broken t os p on.Part) (deeper p (step.Field i) false)

abbrev pub to_base : Tables → Objects → Path → ℕ → Result Path Rule
to_base t os p i = unless (on.broken t os p on.Part) (deeper p (step.Base i) false)

-- the index behind an array's last element gives the place past its end
abbrev pub ends_at : ℕ → Option TypeRow → Bool
ends_at i None = false
ends_at i (Some r) = unwrap_or (option_map (λ (e : ℕ × TypeId). e.0 == i) (elements r.kind)) false

abbrev pub to_elem : Tables → Objects → Path → ℕ → Result Path Rule
to_elem t os p i = unless (on.broken t os p on.Part) (deeper p (step.Elem i) (ends_at i (row_of t os p)))

-- reading

abbrev pub scalar_of : Option Tree → Scalar Path
scalar_of (Some (Leaf v)) = v
scalar_of _ = scalar.Indeterminate

abbrev pub load : Tables → Objects → Path → Result (Scalar Path) Rule
load t os p = unless (on.broken t os p on.Load) (scalar_of (at os p))

abbrev pub member_of : Option Tree → Option ℕ
member_of (Some (Active m x)) = Some m
member_of _ = None

abbrev pub active : Tables → Objects → Path → Result (Option ℕ) Rule
active t os p = unless (on.broken t os p on.Which) (member_of (at os p))

abbrev pub call_on : Tables → Objects → Path → Result (Unit {0}) Rule
call_on t os p = unless (on.broken t os p on.Call) tt

-- writing

-- the five ways to change what stands at a place
pub data Write : Type 0 where
  Init : Scalar Path → Write  -- a scalar or reference gets its first value
  Store : Scalar Path → Write  -- a scalar gets another value
  Advance : Phase → Write  -- a class comes to the next phase of its life
  Activate : ℕ → Bool → Write  -- a member becomes the active one of a union, with its classes alive at once or unborn
  Deactivate : Write  -- a union loses its active member

abbrev pub access_of : Write → on.Access
access_of (Init v) = on.Init
access_of (Store v) = on.Store
access_of (Advance to) = on.Advance to
access_of (Activate m alive) = on.Activate
access_of Deactivate = on.Activate

abbrev pub with_phase : Phase → Tree → Tree
with_phase to (Class p bases members) = Class to bases members
with_phase to x = x

-- Activating a member gives a union a new tree of it; the active member stays as it is, unless it is a class whose
-- lifetime has ended ([class.union]; what the rest of the member holds then is this project's choice).
abbrev pub is_ended : Tree → Bool
is_ended (Class phase.Ended bases members) = true
is_ended _ = false

abbrev pub activated : ℕ → Tree → Tree → Tree
activated m new (Active k x) = if (k == m) && not (is_ended x) then Active k x else Active m new
activated m new Union = Active m new
activated m new x = x

abbrev pub begun : Bool → Phase
begun alive = if alive then phase.Alive else phase.Unborn

abbrev pub member_tree : Tables → Phase → ℕ → Option TypeRow → Tree
member_tree t p m r = unwrap_or (option_map (λ (f : Field). new_tree t p f.ty) (option_and_then (λ c. field_of t c m) (option_and_then (λ (q : TypeRow). on.class_of q.kind) r))) blank

-- A union that loses its active member has none; it does so where it is copied from a union that has none
-- ([class.copy.ctor], [class.copy.assign]).
abbrev pub deactivated : Tree → Tree
deactivated (Active m x) = Union
deactivated x = x

-- what a write makes of the tree at its place, where that is of this type
abbrev pub written : Tables → Option TypeRow → Write → Tree → Tree
written t r (Init v) = λ _. Leaf v
written t r (Store v) = λ _. Leaf v
written t r (Advance to) = with_phase to
written t r (Activate m alive) = activated m (member_tree t (begun alive) m r)
written t r Deactivate = deactivated

abbrev pub write : Tables → Objects → Path → Write → Result Objects Rule
write t os p w = unless (on.broken t os p (access_of w)) (put (written t (row_of t os p) w) os p)

-- each of the five by its name

abbrev pub init : Tables → Objects → Path → Scalar Path → Result Objects Rule
init t os p v = write t os p (Init v)

abbrev pub store : Tables → Objects → Path → Scalar Path → Result Objects Rule
store t os p v = write t os p (Store v)

abbrev pub advance : Tables → Objects → Path → Phase → Result Objects Rule
advance t os p to = write t os p (Advance to)

abbrev pub activate : Tables → Objects → Path → ℕ → Bool → Result Objects Rule
activate t os p m alive = write t os p (Activate m alive)

abbrev pub deactivate : Tables → Objects → Path → Result Objects Rule
deactivate t os p = write t os p Deactivate

-- whole objects

abbrev pub given_up : Object → Object
given_up o = record o { released = true; tree = ended o.tree }

abbrev pub release : Objects → Path → Result Objects Rule
release os p = unless (on.broken no_types os p on.Release) (changed_at given_up os p.object)

abbrev pub settle : Objects → Path → Birth → Objects
settle os p b = changed_at (λ (o : Object). record o { birth = b }) os p.object

-- the objects with numbers below the mark
abbrev pub cut : Objects → ℕ → Objects
cut os mark = take mark os

-- enclosing objects

abbrev pub whole_path : Path → List Step → Path
whole_path p ss = record { object = p.object; steps = ss; past = false }

abbrev pub outer : Tables → Objects → Path → ClassId → Result Path Rule
outer t os p c = unless (on.broken t os p (on.Outer c)) (whole_path p (unwrap_or (option_and_then (λ (o : Object). on.outer_in t o c p.steps) (slice_get os p.object)) p.steps))

abbrev pub with_place : Path → ClassId × List Step → ClassId × Path
with_place p found = (found.0, whole_path p found.1)

abbrev pub dynamic_class : Tables → Objects → Path → Result (Option (ClassId × Path)) Rule
dynamic_class t os p = unless (on.broken t os p on.Dynamic) (option_map (with_place p) (option_and_then (λ (o : Object). on.dynamic_in t o p.steps) (slice_get os p.object)))
