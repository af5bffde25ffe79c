-- Worked cases: places of some objects moved and compared, and which class decides.
use Rattle.std.proofs.Common.{◌≡◌, ℕ, true, false, List, [], ◌∷◌, map, None, Some, Ok, Err, refl, pos, negsuc}
use Rattle.cx_base.specs.declared.rule.Rule.TheVariants as rule
use Rattle.cx_type_defs.specs.declared.ids.Step.{Step}
use Rattle.cx_type_defs.specs.declared.ids.Step.TheVariants.{Base, Field, Elem}
use Rattle.cx_type_defs.specs.declared.ids.ClassId.{ClassId}
use Rattle.cx_state.specs.declared.kind.Phase.{Phase}
use Rattle.cx_state.specs.declared.kind.Phase.TheVariants as phase
use Rattle.cx_state.specs.declared.kind.Scalar.TheVariants as scalar
use Rattle.cx_state.specs.Objects.{Path, Tree}
use Rattle.cx_state.specs.Objects as tree
use Rattle.cx_layout.specs.Forms.{Form, Leaf, Row, Class, End, More}
use Rattle.cx_slot_places.specs.Pointers.{added, distance_of, equal_of, less_of}
use Rattle.cx_slot_places.specs.Lives.{active_of, call_of, dynamic_of}

abbrev id : ℕ → ClassId
id n = record { 0 = n }

abbrev here : List Step → Path
here ss = record { object = 0; steps = ss; past = false }

abbrev past : List Step → Path
past ss = record { object = 0; steps = ss; past = true }

-- int t[3]; struct P { int a; int b; }; union U { int k; P p; }; struct D : P { int t[3]; };
abbrev three : Form
three = Row 3 Leaf

abbrev pair : Form
pair = Class (id 0) false End (More Leaf (More Leaf End))

abbrev either : Form
either = Class (id 1) true End (More Leaf (More pair End))

abbrev derived : Form
derived = Class (id 2) false (More pair End) (More three End)

pub record Two : Type 0 where
  pub form : Form
  pub left : Path
  pub right : Path

abbrev two : Form → Path → Path → Two
two f p q = record { form = f; left = p; right = q }

-- an array isn't equal to its first element, nor a place past an end to what may stand there
equals : map (λ (x : Two). equal_of x.form x.left x.right)
    (two three (here []) (here (Elem 0 ∷ [])) ∷ two three (past (Elem 3 ∷ [])) (past (Elem 3 ∷ [])) ∷ two three (past (Elem 3 ∷ [])) (here (Elem 0 ∷ [])) ∷ two three (past []) (here (Elem 0 ∷ []))
    ∷ two pair (here (Field 0 ∷ [])) (here (Field 1 ∷ [])) ∷ two pair (past (Field 0 ∷ [])) (here (Field 1 ∷ [])) ∷ two pair (past (Field 0 ∷ [])) (here (Field 0 ∷ []))
    ∷ two either (here (Field 0 ∷ [])) (here (Field 1 ∷ [])) ∷ two either (here (Field 1 ∷ Field 0 ∷ [])) (here (Field 1 ∷ Field 1 ∷ []))
    ∷ two derived (here []) (here (Base 0 ∷ [])) ∷ two derived (here (Base 0 ∷ [])) (here (Field 0 ∷ [])) ∷ two derived (here (Base 0 ∷ Field 1 ∷ [])) (here (Field 0 ∷ Elem 1 ∷ [])) ∷ [])
    ≡ Err rule.UnspecifiedCompare ∷ Ok true ∷ Ok false ∷ Err rule.UnspecifiedCompare ∷ Ok false ∷ Err rule.UnspecifiedCompare ∷ Ok false ∷ Err rule.UnspecifiedCompare ∷ Ok false ∷ Err rule.UnspecifiedCompare ∷ Ok false ∷ Ok false ∷ []
equals = refl

-- elements by index, members by declaration; not members of a union, nor a base beside a member
orders : map (λ (x : Two). less_of x.form x.left x.right)
    (two three (here (Elem 0 ∷ [])) (here (Elem 2 ∷ [])) ∷ two three (here (Elem 2 ∷ [])) (past (Elem 3 ∷ [])) ∷ two three (here []) (here (Elem 0 ∷ [])) ∷ two pair (here (Field 0 ∷ [])) (here (Field 1 ∷ []))
    ∷ two pair (here (Field 1 ∷ [])) (here (Field 0 ∷ [])) ∷ two pair (past (Field 0 ∷ [])) (here (Field 1 ∷ [])) ∷ two pair (here (Field 0 ∷ [])) (past (Field 0 ∷ [])) ∷ two either (here (Field 0 ∷ [])) (here (Field 1 ∷ []))
    ∷ two derived (here (Base 0 ∷ [])) (here (Field 0 ∷ [])) ∷ two derived (here (Base 0 ∷ Field 0 ∷ [])) (here (Base 0 ∷ Field 1 ∷ [])) ∷ [])
    ≡ Ok true ∷ Ok true ∷ Err rule.UnspecifiedCompare ∷ Ok true ∷ Ok false ∷ Err rule.UnspecifiedCompare ∷ Ok true ∷ Err rule.UnspecifiedCompare ∷ Err rule.UnspecifiedCompare ∷ Ok true ∷ []
orders = refl

distances : distance_of (past (Elem 3 ∷ [])) (here (Elem 1 ∷ [])) ∷ distance_of (here (Field 0 ∷ [])) (past (Field 0 ∷ [])) ∷ distance_of (here (Field 0 ∷ [])) (here (Field 1 ∷ [])) ∷ [] ≡ Ok (pos 2) ∷ Ok (negsuc 0) ∷ Err rule.PointerDistance ∷ []
distances = refl

-- up to the end of its array, and a part that is no element by one
moves : added three (here (Elem 1 ∷ [])) (pos 2) ∷ added three (here (Elem 1 ∷ [])) (pos 3) ∷ added three (past (Elem 3 ∷ [])) (negsuc 2) ∷ added three (here (Elem 1 ∷ [])) (negsuc 1) ∷ added pair (here (Field 0 ∷ [])) (pos 1) ∷ added pair (past (Field 0 ∷ [])) (pos 1) ∷ []
    ≡ Ok (past (Elem 3 ∷ [])) ∷ Err rule.PointerRange ∷ Ok (here (Elem 0 ∷ [])) ∷ Err rule.PointerRange ∷ Ok (past (Field 0 ∷ [])) ∷ Err rule.PointerRange ∷ []
moves = refl

abbrev blank : Tree
blank = tree.Leaf scalar.Indeterminate

abbrev parts : Phase → Tree
parts p = tree.Class p tree.End (tree.More blank (tree.More blank tree.End))

-- an object of D in one phase, with its base in another
abbrev whole : Phase → Phase → Tree
whole p q = tree.Class p (tree.More (parts q) tree.End) (tree.More (tree.Row (tree.More blank (tree.More blank (tree.More blank tree.End)))) tree.End)

-- at the base: the whole once it is being made or is alive, else the base, else none; of an opaque object the whole
deciders : dynamic_of derived false (whole phase.Alive phase.Alive) (Base 0 ∷ []) ∷ dynamic_of derived false (whole phase.Bases phase.Body) (Base 0 ∷ []) ∷ dynamic_of derived false (whole phase.Bases phase.Bases) (Base 0 ∷ [])
    ∷ dynamic_of derived false (whole phase.Unborn phase.Unborn) (Base 0 ∷ []) ∷ dynamic_of derived true (whole phase.Unborn phase.Unborn) (Base 0 ∷ []) ∷ []
    ≡ Ok (Some (id 2, [])) ∷ Ok (Some (id 0, Base 0 ∷ [])) ∷ Err rule.OutOfLifetime ∷ Err rule.OutOfLifetime ∷ Ok (Some (id 2, [])) ∷ []
deciders = refl

actives : active_of tree.Union [] ∷ active_of (tree.Active 1 (parts phase.Alive)) [] ∷ [] ≡ Ok None ∷ Ok (Some 1) ∷ []
actives = refl

-- a class that has begun its life and has not ended it, in a member that is active
calls : call_of (parts phase.Bases) [] ∷ call_of (parts phase.Ended) [] ∷ call_of (tree.Active 1 (parts phase.Alive)) (Field 1 ∷ []) ∷ call_of (tree.Active 0 blank) (Field 1 ∷ []) ∷ call_of (whole phase.Unborn phase.Alive) (Base 0 ∷ []) ∷ []
    ≡ Ok tt ∷ Err rule.OutOfLifetime ∷ Ok tt ∷ Err rule.InactiveMember ∷ Err rule.OutOfLifetime ∷ []
calls = refl
