-- What is answered of the life of a part.
use Rattle.std.proofs.Common.{◌≡◌, ℕ, ◌≤◌, ◌<◌, Bool, true, false, true≢false, ◌&&◌, ◌||◌, List, ◌++◌, length, Option, None, Some, Ok, Err, refl, sym, ap, ◌∙◌, arith, slice_get, if◌then◌else◌}
use Rattle.cx_base.specs.declared.rule.Rule.{Rule}
use Rattle.cx_base.specs.declared.rule.Rule.TheVariants as rule
use Rattle.cx_type_defs.specs.declared.ids.Step.{Step}
use Rattle.cx_type_defs.specs.declared.ids.ClassId.{ClassId}
use Rattle.cx_state.specs.Objects.{Path, Tree, below}
use Rattle.cx_state.specs.Objects as tree
use Rattle.cx_state.specs.Conditions.{is_dead, passes}
use Rattle.cx_state.specs.Steps.{unless, member_of}
use Rattle.cx_layout.specs.declared.columns.Node.{Node}
use Rattle.cx_layout.specs.declared.place.Place.{Place}
use Rattle.cx_layout.specs.Forms.{Form, Forms, Leaf, Row, Class, End, cells}
use Rattle.cx_layout.specs.Laid.{kind_of}
use Rattle.cx_layout.specs.Described.{Described}
use Rattle.cx_layout.specs.Walks.{IsIn}
use Rattle.cx_layout.proofs.Fitting.{below_inside}
use Rattle.cx_layout.proofs.Placing.{AtPart}
use Rattle.cx_layout.proofs.Walking.{in_there}
use Rattle.cx_layout.proofs.Enclosing.{part_in}
use Rattle.cx_slots.specs.declared.slot.SlotView.{SlotView}
use Rattle.cx_slots.specs.declared.slot.SlotView.TheVariants as view
use Rattle.cx_slots.specs.Slots.{Slot, slot_seen}
use Rattle.cx_slots.specs.Slots as slot
use Rattle.cx_slots.specs.Flat.{Fits, flat}
use Rattle.cx_slot_calls.specs.declared.way.Found.{Found}
use Rattle.cx_slot_calls.specs.Rules.{IsAt, IsUnionAt, Show, breaks, dead_on}
use Rattle.cx_slot_calls.specs.Walks.{slot_at, Finds, Walked, is_class_kind, shows_dead}
use Rattle.cx_slot_calls.proofs.Opening.{first_of, dead_of, dead_there}
use Rattle.cx_slot_calls.proofs.Walking.{part_head}
use Rattle.cx_slot_calls.proofs.Accesses.{part_at, not_there, is_there, what_is_there, is_dead_on}
use Rattle.cx_slot_places.specs.Lives.{life_rule, active_of, call_of}
use Rattle.cx_slot_places.specs.Walks.{Within}
use Rattle.cx_slot_places.specs.Standings.{shows_active}
use Rattle.cx_slot_places.proofs.Ends.{part_within}
use Rattle.cx_slot_places.proofs.Standing.{node_kind}

-- a part at a place
abbrev pub at_part : (f : Form) (ss : List Step) (at : Place) (u : Form) → IsAt f ss at u → AtPart f ss at
at_part f ss at u h = record { part = part_at at u; leads = h; node = refl; slot = refl }

abbrev pub at_within : (ns : List Node) (ks : List ℕ) (f : Form) (d : Described ns ks f) (ss : List Step) (at : Place) (u : Form) → IsAt f ss at u → Within f at.node at.slot ss (part_at at u)
at_within ns ks f d ss at u h = part_within ns ks f ss at d (at_part f ss at u h)

abbrev pub place_in : (ns : List Node) (ks : List ℕ) (f : Form) (d : Described ns ks f) (ss : List Step) (at : Place) (u : Form) → IsAt f ss at u → IsIn ns ks f at.node at.slot
place_in ns ks f d ss at u h = part_in ns ks f ss at d (at_part f ss at u h)

pub node_there : (ns : List Node) (ks : List ℕ) (f : Form) (d : Described ns ks f) (ss : List Step) (at : Place) (u : Form) → IsAt f ss at u → at.node < length ns
node_there ns ks f d ss at u h = in_there ns ks f at.node at.slot (place_in ns ks f d ss at u h)

abbrev pub life_if : Bool → Bool → Option Rule
life_if a b = if a then Some rule.InactiveMember else if b then Some rule.OutOfLifetime else None

pub life_by : (x : Tree) (ss : List Step) (a b : Bool) → breaks x ss rule.InactiveMember ≡ a → breaks x ss rule.OutOfLifetime ≡ b → life_rule x ss ≡ life_if a b
life_by x ss a b e h = ap (λ t. life_if t (breaks x ss rule.OutOfLifetime)) e ∙ ap (life_if a) h

abbrev active_seen : Slot → Option ℕ
active_seen (slot.Active m) = m
active_seen v = None

active_same : (path : Place → Path) (v : SlotView) → shows_active v ≡ active_seen (slot_seen path v)
active_same path (view.Value v) = refl
active_same path (view.Phase p) = refl
active_same path (view.Active m) = refl

class_dead : (g : Form) (v : SlotView) → (is_class_kind (kind_of g) && shows_dead v) ≡ dead_of g v
class_dead Leaf v = refl
class_dead (Row n g) v = refl
class_dead (Class c u bs ms) v = refl

class_cells : (g : Form) → is_class_kind (kind_of g) ≡ true → 1 ≤ cells g
class_cells Leaf e = absurd (true≢false (sym e))
class_cells (Row n g) e = absurd (true≢false (sym e))
class_cells (Class c u bs ms) e = omega arith

-- a class's first slot is among those of the whole
pub class_header : (ns : List Node) (ks : List ℕ) (f : Form) (d : Described ns ks f) (ss : List Step) (at : Place) (u : Form) → IsAt f ss at u → (l : List SlotView) → length l ≡ cells f → (row : Node) → slice_get ns at.node ≡ Some row → is_class_kind row.kind ≡ true → at.slot < length l
class_header ns ks f d ss at u h l len row r e =
    let k = node_kind ns ks f d at.node at.slot ss (part_at at u) (at_within ns ks f d ss at u h) row r in
    let c = class_cells u (ap is_class_kind (sym k) ∙ e) in
    let w = (below_inside f ss (part_at at u) h).in_cells in
    omega arith

module _ (ns : List Node) (ks : List ℕ) (f : Form) (d : Described ns ks f) (l : List SlotView) (at : Place) (w : Found) (walked : Walked f l at.node at.slot w) (path : Place → Path) (x : Tree) (ss : List Step) (u : Form) (show : Show path l f x) (leads : IsAt f ss at u) where
  abbrev within : Within f at.node at.slot ss (part_at at u)
  within = at_within ns ks f d ss at u leads

  pub finds : Finds x ss w
  finds = (walked ss (part_at at u) leads refl within.from within.before).1 path x show

  pub life_not : w.there ≡ false → life_rule x ss ≡ Some rule.InactiveMember
  life_not e = life_by x ss true (breaks x ss rule.OutOfLifetime) (not_there f x ss (part_at at u) w show.fits leads finds e) refl

  pub life_dead : w.there ≡ true → w.dead ≡ true → life_rule x ss ≡ Some rule.OutOfLifetime
  life_dead e b = life_by x ss false true (is_there f x ss (part_at at u) w show.fits leads finds e) (is_dead_on f x ss (part_at at u) w show.fits leads finds e b)

  module _ (e : w.there ≡ true) where
    pub there : (y : Tree) × (below x ss ≡ Some y)
    there = what_is_there f x ss (part_at at u) w show.fits leads finds e

    life_on : (b : Bool) → is_dead there.0 ≡ b → (w.dead || b) ≡ breaks x ss rule.OutOfLifetime
    life_on b z = ap (λ c. c || b) (finds.dead e) ∙ ap (λ c. dead_on x ss || c) (sym z ∙ sym (ap (passes is_dead) there.1))

    pub life_is : (b : Bool) → is_dead there.0 ≡ b → life_rule x ss ≡ life_if false (w.dead || b)
    life_is b z = life_by x ss false (w.dead || b) (is_there f x ss (part_at at u) w show.fits leads finds e) (sym (life_on b z))

    pub header_dead : (row : Node) → slice_get ns at.node ≡ Some row → is_dead there.0 ≡ (is_class_kind row.kind && shows_dead (slot_at l at.slot))
    header_dead row r =
        let k = part_head path l f x show ss (part_at at u) there.0 leads there.1 in
        sym (ap (λ k. is_class_kind k && shows_dead (slot_at l at.slot)) (node_kind ns ks f d at.node at.slot ss (part_at at u) within row r)
        ∙ class_dead u (slot_at l at.slot) ∙ dead_there path u there.0 (slot_at l at.slot) k.0.back k.0.there k.1)

  -- a call
  pub calls_not : w.there ≡ false → Err rule.InactiveMember ≡ call_of x ss
  calls_not e = sym (ap (λ r. unless r tt) (life_not e))

  pub calls_dead_on : w.there ≡ true → w.dead ≡ true → Err rule.OutOfLifetime ≡ call_of x ss
  calls_dead_on e b = sym (ap (λ r. unless r tt) (life_dead e b))

  module _ (e : w.there ≡ true) (row : Node) (r : slice_get ns at.node ≡ Some row) where
    abbrev dead_here : Bool
    dead_here = is_class_kind row.kind && shows_dead (slot_at l at.slot)

    call_is : (b : Bool) → (w.dead || dead_here) ≡ b → unless (life_if false b) tt ≡ call_of x ss
    call_is b z = sym (ap (λ r. unless r tt) (life_is e dead_here (header_dead e row r) ∙ ap (life_if false) z))

    or_true : (c : Bool) → (c || true) ≡ true
    or_true true = refl
    or_true false = refl

    pub calls_here_dead : dead_here ≡ true → Err rule.OutOfLifetime ≡ call_of x ss
    calls_here_dead z = call_is true (ap (λ c. w.dead || c) z ∙ or_true w.dead)

    pub calls : w.dead ≡ false → dead_here ≡ false → Ok tt ≡ call_of x ss
    calls z y = call_is false (ap (λ c. c || dead_here) z ∙ y)

-- a union's active member

module _ (ns : List Node) (ks : List ℕ) (f : Form) (d : Described ns ks f) (l : List SlotView) (at : Place) (w : Found) (walked : Walked f l at.node at.slot w) (path : Place → Path) (x : Tree) (ss : List Step) (c : ClassId) (ms : Forms) (show : Show path l f x) (leads : IsUnionAt f ss at c ms) where
  abbrev u : Form
  u = Class c true End ms

  pub actives_not : w.there ≡ false → Err rule.InactiveMember ≡ active_of x ss
  actives_not e = sym (ap (λ r. unless r (member_of (below x ss))) (life_not ns ks f d l at w walked path x ss u show leads e))

  pub actives_dead : w.there ≡ true → w.dead ≡ true → Err rule.OutOfLifetime ≡ active_of x ss
  actives_dead e b = sym (ap (λ r. unless r (member_of (below x ss))) (life_dead ns ks f d l at w walked path x ss u show leads e b))

  pub actives : w.there ≡ true → w.dead ≡ false → Ok (shows_active (slot_at l at.slot)) ≡ active_of x ss
  actives e b = go y.0 y.1 refl
    where
      y : (y : Tree) × (below x ss ≡ Some y)
      y = there ns ks f d l at w walked path x ss u show leads e

      union_member : (y : Tree) (more : List Slot) → Fits u y → active_seen (first_of (flat u y ++ more) 0) ≡ member_of (Some y)
      union_member tree.Union more h = refl
      union_member (tree.Active m z) more h = refl
      union_member (tree.Leaf z) more h = absurd h
      union_member (tree.Row z) more h = absurd h
      union_member (tree.Class p z s) more h = absurd h

      alive : (y : Tree) → Fits u y → is_dead y ≡ false
      alive tree.Union h = refl
      alive (tree.Active m z) h = refl
      alive (tree.Leaf z) h = absurd h
      alive (tree.Row z) h = absurd h
      alive (tree.Class p z s) h = absurd h

      go : (z : Tree) → below x ss ≡ Some z → y.0 ≡ z → Ok (shows_active (slot_at l at.slot)) ≡ active_of x ss
      go z is same =
          let k = part_head path l f x show ss (part_at at u) z leads is in
          ap Ok (active_same path (slot_at l at.slot) ∙ ap active_seen k.1 ∙ union_member z k.0.back k.0.there ∙ sym (ap member_of is))
          ∙ sym (ap (λ r. unless r (member_of (below x ss))) (life_is ns ks f d l at w walked path x ss u show leads e false (ap is_dead same ∙ alive z k.0.there) ∙ ap (λ c. life_if false (c || false)) b))
