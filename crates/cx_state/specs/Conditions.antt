-- When an access breaks a rule, and in which order the rules are asked ([basic.life], [class.union], [expr.const],
-- [dcl.type.cv]).
use Rattle.std.specs.Prelude.{ℕ, suc, ◌==◌, Bool, true, false, ◌&&◌, ◌||◌, not, List, [], ◌∷◌, ◌++◌, map, Option, None, Some, is_some, unwrap_or, reverse, slice_get, option_and_then, option_map, if◌then◌else◌}
use Rattle.std.specs.List.{list_any, find}
use Rattle.cx_base.specs.declared.rule.Rule.{Rule}
use Rattle.cx_base.specs.declared.rule.Rule.TheVariants as rule
use Rattle.cx_type_defs.specs.declared.ids.Step.{Step}
use Rattle.cx_type_defs.specs.declared.ids.Step.TheVariants as step
use Rattle.cx_type_defs.specs.declared.ids.ClassId.{ClassId}
use Rattle.cx_type_defs.specs.declared.kind.TypeRow.{TypeRow}
use Rattle.cx_type_defs.specs.declared.kind.TypeKind.{TypeKind}
use Rattle.cx_type_defs.specs.declared.kind.TypeKind.TheVariants as kind
use Rattle.cx_type_defs.specs.Tables.{Tables}
use Rattle.cx_state.specs.declared.kind.Birth.{Birth}
use Rattle.cx_state.specs.declared.kind.Birth.TheVariants as birth
use Rattle.cx_state.specs.declared.kind.Phase.{Phase}
use Rattle.cx_state.specs.declared.kind.Phase.TheVariants as phase
use Rattle.cx_state.specs.declared.kind.Scalar.TheVariants as scalar
use Rattle.cx_state.specs.Objects.{Path, Tree, Leaf, Class, Union, Active, Object, Objects, part, below}
use Rattle.cx_state.specs.Places.{row_part, root_row, row_below, row_of}

-- what an access asks of the place that it is given
pub data Access : Type 0 where
  Part : Access  -- a member, base or element of it
  Outer : ClassId → Access  -- the object of this class that it is a base of
  Load : Access
  Which : Access  -- the active member
  Store : Access
  Init : Access
  Activate : Access  -- a union's active member, or that it has none
  Advance : Phase → Access
  Call : Access  -- a member call
  Dynamic : Access  -- the most derived class
  Release : Access

-- the rules of an access, in the order in which they are asked
abbrev pub order : Access → List Rule
order Part = rule.Dangling ∷ rule.PastEnd ∷ []
order (Outer c) = rule.Dangling ∷ rule.PastEnd ∷ rule.DownCast ∷ []
order Load = rule.Dangling ∷ rule.PastEnd ∷ rule.NotUsable ∷ rule.InactiveMember ∷ rule.OutOfLifetime ∷ rule.Indeterminate ∷ []
order Which = rule.Dangling ∷ rule.PastEnd ∷ rule.NotUsable ∷ rule.InactiveMember ∷ rule.OutOfLifetime ∷ []
order Store = rule.Dangling ∷ rule.PastEnd ∷ rule.OutsideWrite ∷ rule.InactiveMember ∷ rule.OutOfLifetime ∷ rule.ConstWrite ∷ []
order Init = rule.Dangling ∷ rule.PastEnd ∷ rule.OutsideWrite ∷ rule.InactiveMember ∷ []
order Activate = rule.Dangling ∷ rule.PastEnd ∷ rule.OutsideWrite ∷ rule.InactiveMember ∷ []
order (Advance to) = rule.Dangling ∷ rule.PastEnd ∷ rule.OutsideWrite ∷ rule.InactiveMember ∷ rule.OutOfLifetime ∷ []
order Call = rule.Dangling ∷ rule.PastEnd ∷ rule.InactiveMember ∷ rule.OutOfLifetime ∷ []
order Dynamic = rule.Dangling ∷ rule.PastEnd ∷ rule.InactiveMember ∷ rule.OutOfLifetime ∷ []
order Release = rule.Dangling ∷ []

-- an access that reads or changes what stands at the place itself
abbrev pub is_touching : Access → Bool
is_touching Load = true
is_touching Which = true
is_touching Store = true
is_touching Init = true
is_touching Activate = true
is_touching (Advance to) = true
is_touching _ = false

abbrev pub is_opaque : Birth → Bool
is_opaque birth.Opaque = true
is_opaque _ = false

abbrev pub is_here : Birth → Bool
is_here birth.Here = true
is_here _ = false

abbrev pub listed : {A : Type 0} → Option A → List A
listed None = []
listed (Some a) = a ∷ []

-- the parts from which the steps lead on, outermost first, each with its step, as far as there are such parts
abbrev pub on_way : Tree → List Step → List (Tree × Step)
on_way x [] = []
on_way x (s ∷ ss) = (x, s) ∷ unwrap_or (option_map (λ y. on_way y ss) (part x s)) []

abbrev pub passes : (Tree → Bool) → Option Tree → Bool
passes test None = false
passes test (Some x) = test x

-- a union on the way with another active member, or with none ([class.union])
abbrev pub is_union : Tree → Bool
is_union Union = true
is_union (Active m x) = true
is_union _ = false

abbrev pub stops : Tree × Step → Bool
stops w = is_union w.0 && not (is_some (part w.0 w.1))

-- a class whose lifetime has not begun, or has ended ([basic.life])
abbrev pub is_dead_phase : Phase → Bool
is_dead_phase phase.Unborn = true
is_dead_phase phase.Ended = true
is_dead_phase _ = false

abbrev pub is_dead : Tree → Bool
is_dead (Class p bases members) = is_dead_phase p
is_dead _ = false

abbrev pub is_alive : Tree → Bool
is_alive (Class phase.Alive bases members) = true
is_alive _ = false

-- a class that is being made or unmade, or is alive, so that it decides what a virtual call reaches ([class.cdtor])
abbrev pub is_deciding_phase : Phase → Bool
is_deciding_phase phase.Body = true
is_deciding_phase phase.Alive = true
is_deciding_phase phase.Ending = true
is_deciding_phase _ = false

abbrev pub is_deciding : Tree → Bool
is_deciding (Class p bases members) = is_deciding_phase p
is_deciding _ = false

abbrev pub phase_number : Phase → ℕ
phase_number phase.Unborn = 0
phase_number phase.Bases = 1
phase_number phase.Body = 2
phase_number phase.Alive = 3
phase_number phase.Ending = 4
phase_number phase.EndingBases = 5
phase_number phase.Ended = 6

-- a class in the phase just before that one
abbrev pub is_before : Phase → Tree → Bool
is_before to (Class p bases members) = suc (phase_number p) == phase_number to
is_before to _ = false

-- a scalar, and one without a value ([basic.indet])
abbrev pub is_leaf : Tree → Bool
is_leaf (Leaf v) = true
is_leaf _ = false

abbrev pub is_indeterminate : Tree → Bool
is_indeterminate (Leaf scalar.Indeterminate) = true
is_indeterminate _ = false

-- A part that nothing may write to: a const class that is alive, with all in it, and a const scalar that has a value. A
-- union has no lifetime here: that a const union alone protects nothing is this project's choice ([dcl.type.cv]).
abbrev pub is_sealed : TypeRow → Tree → Bool
is_sealed r x = r.konst && (is_alive x || (is_leaf x && not (is_indeterminate x)))

-- a part on the way or at the end is so
abbrev pub sealed : Tables → TypeRow → Tree → List Step → Bool
sealed t r x [] = is_sealed r x
sealed t r x (s ∷ ss) = is_sealed r x || unwrap_or (option_and_then (λ (q : TypeRow). option_map (λ y. sealed t q y ss) (part x s)) (row_part t r s)) false

-- the objects that enclose what the steps lead to, through steps to a base alone: outermost first, itself the last
abbrev pub is_base : Step → Bool
is_base (step.Base i) = true
is_base _ = false

abbrev pub all_bases : List Step → Bool
all_bases [] = true
all_bases (s ∷ ss) = is_base s && all_bases ss

abbrev pub enclosing : List Step → List (List Step)
enclosing [] = [] ∷ []
enclosing (s ∷ ss) = (if all_bases (s ∷ ss) then [] ∷ [] else []) ++ map (λ us. s ∷ us) (enclosing ss)

abbrev pub class_of : TypeKind → Option ClassId
class_of (kind.Class c) = Some c
class_of _ = None

abbrev pub class_below : Tables → Object → List Step → Option ClassId
class_below t o ss = option_and_then (λ (r : TypeRow). option_and_then (λ (q : TypeRow). class_of q.kind) (row_below t r ss)) (root_row t o)

-- the class that is at a place, if one is
abbrev pub class_at : Tables → Objects → Path → Option ClassId
class_at t os p = option_and_then (λ (r : TypeRow). class_of r.kind) (row_of t os p)

-- the nearest of them of this class ([expr.static.cast])
abbrev pub outer_in : Tables → Object → ClassId → List Step → Option (List Step)
outer_in t o c ss = find (λ us. list_any (λ (d : ClassId). d.0 == c.0) (listed (class_below t o us))) (reverse (enclosing ss))

-- the outermost of them that decides; in an opaque object the outermost ([class.cdtor])
abbrev pub decides : Object → List Step → Bool
decides o ss = is_opaque o.birth || passes is_deciding (below o.tree ss)

abbrev pub dynamic_in : Tables → Object → List Step → Option (ClassId × List Step)
dynamic_in t o ss = option_and_then (λ us. option_map (λ c. (c, us)) (class_below t o us)) (find (decides o) (enclosing ss))

-- the conditions

abbrev pub is_out_of_lifetime : Tables → Object → Access → List Step → Bool
is_out_of_lifetime t o (Advance to) ss = not (passes (is_before to) (below o.tree ss))
is_out_of_lifetime t o Dynamic ss = passes is_dead (below o.tree ss) || not (is_some (dynamic_in t o ss))
is_out_of_lifetime t o access ss = passes is_dead (below o.tree ss)

abbrev pub lacks_outer : Tables → Object → Access → List Step → Bool
lacks_outer t o (Outer c) ss = not (is_some (outer_in t o c ss))
lacks_outer t o access ss = false

abbrev pub holds : Tables → Object → Path → Access → Rule → Bool
holds t o p access rule.Dangling = o.released
holds t o p access rule.PastEnd = p.past
holds t o p access rule.NotUsable = is_opaque o.birth
holds t o p access rule.OutsideWrite = not (is_here o.birth)
holds t o p access rule.InactiveMember = not (is_opaque o.birth) && list_any stops (on_way o.tree p.steps)
holds t o p access rule.OutOfLifetime = not (is_opaque o.birth) && (list_any (λ w. is_dead w.0) (on_way o.tree p.steps) || is_out_of_lifetime t o access p.steps)
holds t o p access rule.Indeterminate = passes is_indeterminate (below o.tree p.steps)
holds t o p access rule.ConstWrite = list_any (λ (r : TypeRow). sealed t r o.tree p.steps) (listed (root_row t o))
holds t o p access rule.DownCast = lacks_outer t o access p.steps
holds t o p access _ = false

-- the rule that an access breaks: the first in its order whose condition holds
abbrev pub broken : Tables → Objects → Path → Access → Option Rule
broken t os p access = option_and_then (λ (o : Object). find (holds t o p access) (order access)) (slice_get os p.object)
