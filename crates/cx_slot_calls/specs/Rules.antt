-- What stands at the end of steps in one tree: the rules that an access there breaks, and what the slots of the tree show
-- ([basic.life], [class.union]).
use Rattle.std.specs.Prelude.{◌≡◌, ℕ, Bool, true, false, ◌||◌, not, List, [], ◌∷◌, Option, None, Some, Result, Ok, Err, if◌then◌else◌}
use Rattle.std.specs.List.{list_any, find}
use Rattle.cx_base.specs.declared.rule.Rule.{Rule}
use Rattle.cx_base.specs.declared.rule.Rule.TheVariants as rule
use Rattle.cx_type_defs.specs.declared.ids.Step.{Step}
use Rattle.cx_state.specs.declared.kind.Scalar.{Scalar}
use Rattle.cx_state.specs.declared.kind.Phase.{Phase}
use Rattle.cx_state.specs.Objects.{Path, Tree, below, changed}
use Rattle.cx_state.specs.Conditions.{on_way, stops, is_dead, is_before, is_indeterminate, passes}
use Rattle.cx_state.specs.Steps.{unless, scalar_of}
use Rattle.cx_layout.specs.declared.place.Place.{Place}
use Rattle.cx_type_defs.specs.declared.ids.ClassId.{ClassId}
use Rattle.cx_layout.specs.Forms.{Form, Forms, Class, End, Part, item, below_of}
use Rattle.cx_slots.specs.declared.slot.SlotView.{SlotView}
use Rattle.cx_slots.specs.Slots.{slots_seen}
use Rattle.cx_slots.specs.Flat.{Fits, flat}

-- the slots are those of a tree of that form
pub record Show (path : Place → Path) (l : List SlotView) (f : Form) (x : Tree) : Type 0 where
  pub fits : Fits f x
  pub seen : slots_seen path l ≡ flat f x

-- the steps lead to what is of form u, and this is its place
abbrev pub IsAt : Form → List Step → Place → Form → Type 0
IsAt f ss at u = below_of f ss ≡ Some (record { node = at.node; slot = at.slot; form = u })

-- there is such a place
abbrev pub HasAt : Form → Place → Form → Type 0
HasAt f at u = (ss : List Step) × IsAt f ss at u

-- a class on the way is dead
abbrev pub dead_on : Tree → List Step → Bool
dead_on x ss = list_any (λ w. is_dead w.0) (on_way x ss)

abbrev pub breaks : Tree → List Step → Rule → Bool
breaks x ss rule.InactiveMember = list_any stops (on_way x ss)
breaks x ss rule.OutOfLifetime = dead_on x ss || passes is_dead (below x ss)
breaks x ss rule.Indeterminate = passes is_indeterminate (below x ss)
breaks x ss _ = false

abbrev pub load_of : Tree → List Step → Result (Scalar Path) Rule
load_of x ss = unless (find (breaks x ss) (rule.InactiveMember ∷ rule.OutOfLifetime ∷ rule.Indeterminate ∷ [])) (scalar_of (below x ss))

-- first those of the tree, and then that nothing may write there
abbrev pub or_sealed : Bool → Option Rule → Option Rule
or_sealed sealed (Some r) = Some r
or_sealed sealed None = if sealed then Some rule.ConstWrite else None

abbrev pub store_rule : Bool → Tree → List Step → Option Rule
store_rule sealed x ss = or_sealed sealed (find (breaks x ss) (rule.InactiveMember ∷ rule.OutOfLifetime ∷ []))

abbrev pub reach_rule : Tree → List Step → Option Rule
reach_rule x ss = find (breaks x ss) (rule.InactiveMember ∷ [])

-- a class comes to the phase from the one just before it
abbrev pub advances : Phase → Tree → List Step → Rule → Bool
advances to x ss rule.OutOfLifetime = dead_on x ss || not (passes (is_before to) (below x ss))
advances to x ss r = breaks x ss r

abbrev pub advance_rule : Phase → Tree → List Step → Option Rule
advance_rule to x ss = find (advances to x ss) (rule.InactiveMember ∷ rule.OutOfLifetime ∷ [])

-- the rule is told and nothing changes, or what stands at the end of the steps is changed by g
abbrev pub Writes : (Place → Path) → Form → Tree → List Step → (Tree → Tree) → Option Rule → List SlotView → List SlotView → Result (Unit {0}) Rule → Type 0
Writes path f x ss g None old new result = (result ≡ Ok tt) × Show path new f (changed g x ss)
Writes path f x ss g (Some r) old new result = (result ≡ Err r) × (new ≡ old)

-- the steps lead to a union, and this is its place; a union has no bases
abbrev pub IsUnionAt : Form → List Step → Place → ClassId → Forms → Type 0
IsUnionAt f ss at c ms = IsAt f ss at (Class c true End ms)

-- there is one, and one with that member
pub record HasUnion (f : Form) (at : Place) : Type 0 where
  pub steps : List Step
  pub class : ClassId
  pub members : Forms
  pub is_at : IsUnionAt f steps at class members

pub record HasMember (f : Form) (at : Place) (m : ℕ) : Type 0 where
  pub union : HasUnion f at
  pub part : Part
  pub is_part : item true union.members m ≡ Some part

-- and so for a class that isn't a union
abbrev pub IsClassAt : Form → List Step → Place → ClassId → Forms → Forms → Type 0
IsClassAt f ss at c bs ms = IsAt f ss at (Class c false bs ms)

pub record HasClass (f : Form) (at : Place) : Type 0 where
  pub steps : List Step
  pub class : ClassId
  pub bases : Forms
  pub members : Forms
  pub is_at : IsClassAt f steps at class bases members
