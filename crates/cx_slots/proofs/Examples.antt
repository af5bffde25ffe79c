-- Worked cases: the slots of an object after each of some steps.
use Rattle.std.proofs.Common.{◌≡◌, ℕ, List, [], ◌∷◌, Option, None, Some, Result, Ok, refl}
use Rattle.std.specs.Prelude.{unwrap_or}
use Rattle.cx_base.specs.declared.rule.Rule.{Rule}
use Rattle.cx_type_defs.specs.declared.ids.TypeId.{TypeId}
use Rattle.cx_type_defs.specs.Questions.{asked, looked, most_levels}
use Rattle.cx_state.specs.declared.kind.Phase.TheVariants as phase
use Rattle.cx_state.specs.declared.kind.Scalar.TheVariants as scalar
use Rattle.cx_state.specs.Objects.{Tree, Objects}
use Rattle.cx_state.specs.Objects as tree
use Rattle.cx_state.proofs.CaseTables.{Move, sample, makes, of_type, many_of, after, inits, activates, deactivates, advances, begins, releases, whole_number, base, field, elem, holder, most_derived, int_type, three_ints, two_rows}
use Rattle.cx_layout.specs.Forms.{Form, Leaf}
use Rattle.cx_layout.specs.TypeForms.{form_in, object_form}
use Rattle.cx_slots.specs.Slots.{Slot, Value, Header, Active}
use Rattle.cx_slots.specs.Flat.{flat, picture}

-- the slots of the first object, made as so many of a type, or as one
abbrev form : TypeId → Option ℕ → Form
form of n = unwrap_or (object_form sample of n) Leaf

abbrev slots_in : TypeId → Option ℕ → Result Objects Rule → List Slot
slots_in of n (Ok (o ∷ os)) = flat (form of n) o.tree
slots_in of n _ = []

abbrev slots : TypeId → Option ℕ → List Move → List Slot
slots of n moves = slots_in of n (after moves)

abbrev none : Slot
none = Value scalar.Indeterminate

abbrev int : ℕ → Slot
int n = Value (whole_number n)

-- union V { int w; int x; }; union U { int k; V v; }; struct O { U u; }; an O
abbrev new_holder : Move
new_holder = makes (of_type holder)

made : slots holder None (new_holder ∷ []) ≡ Header phase.Unborn ∷ Active None ∷ none ∷ none ∷ []
unfolding object_form form_in most_levels asked looked
made = refl

-- `u.k` is active, and 1: the widest member has a slot more
first_member : slots holder None (new_holder ∷ activates (field 0 ∷ []) 0 ∷ inits (field 0 ∷ field 0 ∷ []) 1 ∷ []) ≡ Header phase.Unborn ∷ Active (Some 0) ∷ int 1 ∷ none ∷ []
unfolding object_form form_in most_levels asked looked
first_member = refl

-- then `u.v` is: its header stands where the number stood
second_member : slots holder None (new_holder ∷ activates (field 0 ∷ []) 0 ∷ inits (field 0 ∷ field 0 ∷ []) 1 ∷ activates (field 0 ∷ []) 1 ∷ []) ≡ Header phase.Unborn ∷ Active (Some 1) ∷ Active None ∷ none ∷ []
unfolding object_form form_in most_levels asked looked
second_member = refl

-- and then `u.v.x`, which is 3
abbrev filled : List Move
filled = new_holder ∷ activates (field 0 ∷ []) 0 ∷ inits (field 0 ∷ field 0 ∷ []) 1 ∷ activates (field 0 ∷ []) 1 ∷ activates (field 0 ∷ field 1 ∷ []) 1 ∷ inits (field 0 ∷ field 1 ∷ field 1 ∷ []) 3 ∷ []

inner_member : slots holder None filled ≡ Header phase.Unborn ∷ Active (Some 1) ∷ Active (Some 1) ∷ int 3 ∷ []
unfolding object_form form_in most_levels asked looked
inner_member = refl

-- once it is released
released : slots holder None (new_holder ∷ activates (field 0 ∷ []) 1 ∷ activates (field 0 ∷ field 1 ∷ []) 1 ∷ inits (field 0 ∷ field 1 ∷ field 1 ∷ []) 3 ∷ releases 0 ∷ []) ≡ Header phase.Ended ∷ Active None ∷ none ∷ none ∷ []
unfolding object_form form_in most_levels asked looked
released = refl

-- a union that has lost its active member shows nothing of it
given_up : slots holder None (new_holder ∷ activates (field 0 ∷ []) 1 ∷ activates (field 0 ∷ field 1 ∷ []) 1 ∷ inits (field 0 ∷ field 1 ∷ field 1 ∷ []) 3 ∷ deactivates (field 0 ∷ []) ∷ []) ≡ Header phase.Unborn ∷ Active None ∷ none ∷ none ∷ []
unfolding object_form form_in most_levels asked looked
given_up = refl

-- the tree is read from its slots
read_back : picture (form holder None) (Header phase.Unborn ∷ Active (Some 1) ∷ Active (Some 1) ∷ int 3 ∷ []) ≡ tree.Class phase.Unborn tree.End (tree.More (tree.Active 1 (tree.Active 1 (tree.Leaf (whole_number 3)))) tree.End)
unfolding object_form form_in most_levels
read_back = refl

-- struct Base { int b; }; struct Middle : Base { int m; }; struct Derived : Middle { int d; }; each base has a header of its own
bases : slots most_derived None (makes (of_type most_derived) ∷ advances [] phase.Bases ∷ advances (base 0 ∷ []) phase.Bases ∷ begins (base 0 ∷ base 0 ∷ []) ∷ inits (base 0 ∷ base 0 ∷ field 0 ∷ []) 1 ∷ inits (field 0 ∷ []) 2 ∷ [])
    ≡ Header phase.Bases ∷ Header phase.Bases ∷ Header phase.Alive ∷ int 1 ∷ none ∷ int 2 ∷ []
unfolding object_form form_in most_levels asked looked
bases = refl

-- int[2][3]: elements stand side by side; two of int[3] that a new-expression made do so too
rows : slots two_rows None (makes (of_type two_rows) ∷ inits (elem 0 ∷ elem 2 ∷ []) 1 ∷ inits (elem 1 ∷ elem 0 ∷ []) 2 ∷ []) ≡ none ∷ none ∷ int 1 ∷ int 2 ∷ none ∷ none ∷ []
unfolding object_form form_in most_levels asked looked
rows = refl

made_rows : slots three_ints (Some 2) (makes (many_of three_ints 2) ∷ inits (elem 1 ∷ elem 2 ∷ []) 1 ∷ []) ≡ none ∷ none ∷ none ∷ none ∷ none ∷ int 1 ∷ []
unfolding object_form form_in most_levels asked looked
made_rows = refl

-- an array of no elements has no slots
no_elements : slots int_type (Some 0) (makes (many_of int_type 0) ∷ []) ≡ []
unfolding object_form form_in most_levels asked looked
no_elements = refl
