-- A class comes to its next phase.
use Rattle.std.proofs.Common.{◌≡◌, suc, ◌==◌, Bool, true, false, not, ◌||◌, List, ◌++◌, Option, None, Some, Result, Ok, Err, refl, sym, ap, subst, ◌∙◌, arith, if◌then◌else◌}
use Rattle.std.proofs.Math.ListN.{set}
use Rattle.cx_base.specs.declared.rule.Rule.{Rule}
use Rattle.cx_base.specs.declared.rule.Rule.TheVariants as rule
use Rattle.cx_type_defs.specs.declared.ids.Step.{Step}
use Rattle.cx_type_defs.specs.declared.ids.ClassId.{ClassId}
use Rattle.cx_state.specs.declared.kind.Phase.{Phase}
use Rattle.cx_state.specs.Objects.{Path, Tree, Trees, below}
use Rattle.cx_state.specs.Objects as tree
use Rattle.cx_state.specs.Conditions.{is_before, passes, phase_number}
use Rattle.cx_state.specs.Steps.{with_phase}
use Rattle.cx_layout.specs.declared.place.Place.{Place}
use Rattle.cx_layout.specs.Forms.{Form, Forms, Class}
use Rattle.cx_slots.specs.declared.slot.SlotView.{SlotView}
use Rattle.cx_slots.specs.declared.slot.SlotView.TheVariants as view
use Rattle.cx_slots.specs.Slots.{Slot, slot_seen}
use Rattle.cx_slots.specs.Slots as slot
use Rattle.cx_slots.specs.Flat.{Fits, AllFit, flat, flat_all}
use Rattle.cx_slot_calls.specs.declared.way.Found.{Found}
use Rattle.cx_slot_calls.specs.Rules.{Show, IsClassAt, breaks, advances, Writes}
use Rattle.cx_slot_calls.specs.Walks.{slot_at, shows_before, Finds, Walked}
use Rattle.cx_slot_calls.proofs.Opening.{first_of}
use Rattle.cx_slot_calls.proofs.Walking.{part_head}
use Rattle.cx_slot_calls.proofs.Filling.{seen_over}
use Rattle.cx_slot_calls.proofs.Accesses.{part_at, found_there, not_there, is_there, what_is_there, put_first}

abbrev before_seen : Phase → Slot → Bool
before_seen to (slot.Header p) = suc (phase_number p) == phase_number to
before_seen to _ = false

before_same : (path : Place → Path) (to : Phase) (v : SlotView) → shows_before to v ≡ before_seen to (slot_seen path v)
before_same path to (view.Value v) = refl
before_same path to (view.Phase p) = refl
before_same path to (view.Active m) = refl

-- the first of two rules
abbrev pub advance_by : Bool → Bool → Option Rule
advance_by a b = if a then Some rule.InactiveMember else if b then Some rule.OutOfLifetime else None

-- what is there is a class
record ClassThere (bs ms : Forms) (y : Tree) : Type 0 where
  phase : Phase
  bases : Trees
  members : Trees
  is_class : y ≡ tree.Class phase bases members
  bases_fit : AllFit bs bases
  members_fit : AllFit ms members

class_there : (c : ClassId) (bs ms : Forms) (y : Tree) → Fits (Class c false bs ms) y → ClassThere bs ms y
class_there c bs ms (tree.Class p xs ys) h = record { phase = p; bases = xs; members = ys; is_class = refl; bases_fit = h.0; members_fit = h.1 }
class_there c bs ms y h = absurd h

module _ (f : Form) (l : List SlotView) (at : Place) (w : Found) (walked : Walked f l at.node at.slot w) (path : Place → Path) (x : Tree) (ss : List Step) (c : ClassId) (bs ms : Forms) (show : Show path l f x) (leads : IsClassAt f ss at c bs ms) (to : Phase) where
  abbrev u : Form
  u = Class c false bs ms

  finds : Finds x ss w
  finds = found_there f at u ss leads (omega arith) l w walked path x show

  abbrev Told : List SlotView → Result (Unit {0}) Rule → Bool → Bool → Type 0
  Told new result a b = Writes path f x ss (with_phase to) (advance_by a b) l new result

  told_by : (new : List SlotView) (result : Result (Unit {0}) Rule) (a b : Bool) → breaks x ss rule.InactiveMember ≡ a → advances to x ss rule.OutOfLifetime ≡ b → Told new result a b → Told new result (breaks x ss rule.InactiveMember) (advances to x ss rule.OutOfLifetime)
  told_by new result a b e h k = subst (λ t. Told new result t (advances to x ss rule.OutOfLifetime)) (sym e) (subst (λ t. Told new result a t) (sym h) k)

  pub advances_not : w.there ≡ false → Told l (Err rule.InactiveMember) (breaks x ss rule.InactiveMember) (advances to x ss rule.OutOfLifetime)
  advances_not e = told_by l (Err rule.InactiveMember) true (advances to x ss rule.OutOfLifetime) (not_there f x ss (part_at at u) w show.fits leads finds e) refl (refl, refl)

  pub advances_dead : w.there ≡ true → w.dead ≡ true → Told l (Err rule.OutOfLifetime) (breaks x ss rule.InactiveMember) (advances to x ss rule.OutOfLifetime)
  advances_dead e d = told_by l (Err rule.OutOfLifetime) false true (is_there f x ss (part_at at u) w show.fits leads finds e) (ap (λ b. b || not (passes (is_before to) (below x ss))) (sym (finds.dead e) ∙ d)) (refl, refl)

  -- what the header says of it
  record HeaderThere : Type 0 where
    tree_is : Tree
    is : below x ss ≡ Some tree_is
    class : ClassThere bs ms tree_is
    before : is_before to tree_is ≡ shows_before to (slot_at l at.slot)

  header_there : w.there ≡ true → HeaderThere
  header_there e =
      let y = what_is_there f x ss (part_at at u) w show.fits leads finds e in
      let h = part_head path l f x show ss (part_at at u) y.0 leads y.1 in
      record {
        tree_is = y.0;
        is = y.1;
        class = class_there c bs ms y.0 h.0.there;
        before = sym (before_same path to (slot_at l at.slot) ∙ ap (before_seen to) h.1 ∙ same y.0 h.0.back h.0.there);
      }
    where
      same : (y : Tree) (more : List Slot) → Fits u y → before_seen to (first_of (flat u y ++ more) 0) ≡ is_before to y
      same (tree.Class p xs ys) more h = refl
      same y more h = absurd h

  outside : w.there ≡ true → w.dead ≡ false → (b : Bool) → shows_before to (slot_at l at.slot) ≡ b → advances to x ss rule.OutOfLifetime ≡ not b
  outside e d b k =
      let t = header_there e in
      ap (λ v. v || not (passes (is_before to) (below x ss))) (sym (finds.dead e) ∙ d) ∙ ap (λ o. not (passes (is_before to) o)) t.is ∙ ap not (t.before ∙ k)

  pub advances_other : w.there ≡ true → w.dead ≡ false → shows_before to (slot_at l at.slot) ≡ false → Told l (Err rule.OutOfLifetime) (breaks x ss rule.InactiveMember) (advances to x ss rule.OutOfLifetime)
  advances_other e d k = told_by l (Err rule.OutOfLifetime) false true (is_there f x ss (part_at at u) w show.fits leads finds e) (outside e d false k) (refl, refl)

  pub advances_on : w.there ≡ true → w.dead ≡ false → shows_before to (slot_at l at.slot) ≡ true → Told (set l at.slot (view.Phase to)) (Ok tt) (breaks x ss rule.InactiveMember) (advances to x ss rule.OutOfLifetime)
  advances_on e d k =
      let t = header_there e in
      let z = t.class in
      let new = ap (with_phase to) z.is_class in
      told_by (set l at.slot (view.Phase to)) (Ok tt) false false (is_there f x ss (part_at at u) w show.fits leads finds e) (outside e d true k) (
        refl,
        put_first path l f x show ss (part_at at u) t.tree_is leads t.is (with_phase to) (set l at.slot (view.Phase to)) (subst (Fits u) (sym new) (z.bases_fit, z.members_fit))
            (slot.Header z.phase) (slot.Header to) (flat_all bs z.bases ++ flat_all ms z.members) (ap (flat u) z.is_class) (ap (flat u) new) (seen_over path l at.slot (view.Phase to)),
      )
