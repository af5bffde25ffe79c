-- What an access finds at a place, and what a write there changes.
use Rattle.std.proofs.Common.{◌≡◌, ℕ, ◌+◌, ◌≤◌, Bool, true, false, true≢false, not, ◌||◌, List, [], ◌∷◌, ◌++◌, Option, None, Some, Result, Ok, Err, refl, sym, ap, subst, ◌∙◌, arith, if◌then◌else◌}
use Rattle.std.proofs.Math.ListN.{set}
use Rattle.std.specs.Prelude.{is_some}
use Rattle.cx_base.specs.declared.rule.Rule.{Rule}
use Rattle.cx_base.specs.declared.rule.Rule.TheVariants as rule
use Rattle.cx_type_defs.specs.declared.ids.Step.{Step}
use Rattle.cx_state.specs.declared.kind.Scalar.{Scalar}
use Rattle.cx_state.specs.declared.kind.Scalar.TheVariants as scalar
use Rattle.cx_state.specs.Objects.{Path, Tree, below, changed}
use Rattle.cx_state.specs.Objects as tree
use Rattle.cx_state.specs.Conditions.{is_dead, is_indeterminate, passes}
use Rattle.cx_state.specs.Steps.{unless, scalar_of}
use Rattle.cx_store.specs.Stores.{result_seen, seen}
use Rattle.cx_layout.specs.declared.columns.Node.{Node}
use Rattle.cx_layout.specs.declared.place.Place.{Place}
use Rattle.cx_layout.specs.Forms.{Form, Leaf, cells, Part, below_of}
use Rattle.cx_layout.specs.Described.{Described}
use Rattle.cx_layout.specs.Walks.{IsIn}
use Rattle.cx_layout.proofs.Fitting.{below_inside}
use Rattle.cx_slots.specs.declared.slot.SlotView.{SlotView}
use Rattle.cx_slots.specs.declared.slot.SlotView.TheVariants as view
use Rattle.cx_slots.specs.Slots.{Slot, slot_seen, slots_seen}
use Rattle.cx_slots.specs.Slots as slot
use Rattle.cx_slots.specs.Flat.{Fits, flat}
use Rattle.cx_slots.specs.Fresh.{over}
use Rattle.cx_slots.specs.Frames.{Framed}
use Rattle.cx_slots.proofs.Lengths.{flat_length}
use Rattle.cx_slots.proofs.Over.{over_part}
use Rattle.cx_slots.proofs.Frames.{part_framed}
use Rattle.cx_slot_calls.specs.declared.way.Found.{Found}
use Rattle.cx_slot_calls.specs.Rules.{Show, IsAt, breaks, load_of, or_sealed, reach_rule, Writes}
use Rattle.cx_slot_calls.specs.Walks.{slot_at, value_of, Finds, Walked}
use Rattle.cx_slot_calls.proofs.Opening.{stops_is}
use Rattle.cx_slot_calls.proofs.Walking.{part_head}
use Rattle.cx_slot_calls.proofs.Filling.{seen_over}

-- the part at a place
abbrev pub part_at : Place → Form → Part
part_at at u = record { node = at.node; slot = at.slot; form = u }

module _ (f : Form) (at : Place) (u : Form) (ss : List Step) (leads : IsAt f ss at u) (some : 1 ≤ cells u) where
  abbrev pub at_in : (ns : List Node) (ks : List ℕ) → Described ns ks f → IsIn ns ks f at.node at.slot
  at_in ns ks d = record { described = d; steps = ss; part = part_at at u; leads = leads; node_is = refl; from = omega arith; before = λ _. omega arith }

  pub at_within : at.slot + cells u ≤ cells f
  at_within = (below_inside f ss (part_at at u) leads).in_cells

  pub found_there : (l : List SlotView) (w : Found) → Walked f l at.node at.slot w → (path : Place → Path) (x : Tree) → Show path l f x → Finds x ss w
  found_there l w walked = (walked ss (part_at at u) leads refl (omega arith) (λ _. omega arith)).1

-- the rules, by what is found
module _ (f : Form) (x : Tree) (ss : List Step) (p : Part) (w : Found) (fits : Fits f x) (leads : below_of f ss ≡ Some p) (finds : Finds x ss w) where
  pub not_there : w.there ≡ false → breaks x ss rule.InactiveMember ≡ true
  not_there e = stops_is f x ss p fits leads ∙ ap not (sym finds.there ∙ e)

  pub is_there : w.there ≡ true → breaks x ss rule.InactiveMember ≡ false
  is_there e = stops_is f x ss p fits leads ∙ ap not (sym finds.there ∙ e)

  pub what_is_there : w.there ≡ true → (y : Tree) × (below x ss ≡ Some y)
  what_is_there e = go (below x ss) (sym finds.there ∙ e)
    where
      go : (o : Option Tree) → is_some o ≡ true → (y : Tree) × (o ≡ Some y)
      go None e = absurd (true≢false (sym e))
      go (Some y) e = (y, refl)

  pub is_dead_on : w.there ≡ true → w.dead ≡ true → breaks x ss rule.OutOfLifetime ≡ true
  is_dead_on e d = ap (λ b. b || passes is_dead (below x ss)) (sym (finds.dead e) ∙ d)

  pub no_dead_on : w.there ≡ true → w.dead ≡ false → (y : Tree) → below x ss ≡ Some y → is_dead y ≡ false → breaks x ss rule.OutOfLifetime ≡ false
  no_dead_on e d y b n = ap (λ b. b || passes is_dead (below x ss)) (sym (finds.dead e) ∙ d) ∙ ap (passes is_dead) b ∙ n

-- the first of three rules
abbrev pub first_rule : Bool → Bool → Bool → Option Rule
first_rule a b c = if a then Some rule.InactiveMember else if b then Some rule.OutOfLifetime else if c then Some rule.Indeterminate else None

pub load_by : (x : Tree) (ss : List Step) (a b c : Bool) → breaks x ss rule.InactiveMember ≡ a → breaks x ss rule.OutOfLifetime ≡ b → breaks x ss rule.Indeterminate ≡ c → unless (first_rule a b c) (scalar_of (below x ss)) ≡ load_of x ss
load_by x ss a b c e h k =
    sym (ap (λ t. unless (first_rule t (breaks x ss rule.OutOfLifetime) (breaks x ss rule.Indeterminate)) (scalar_of (below x ss))) e
    ∙ ap (λ t. unless (first_rule a t (breaks x ss rule.Indeterminate)) (scalar_of (below x ss))) h ∙ ap (λ t. unless (first_rule a b t) (scalar_of (below x ss))) k)

-- a scalar

pub leaf_of : (y : Tree) → Fits Leaf y → (v : Scalar Path) × (y ≡ tree.Leaf v)
leaf_of (tree.Leaf v) h = (v, refl)
leaf_of y h = absurd h

abbrev told : Scalar Path → Result (Scalar Path) Rule
told a = unless (if is_indeterminate (tree.Leaf a) then Some rule.Indeterminate else None) a

load_value : (path : Place → Path) (v : SlotView) (z : Scalar Path) → slot_seen path v ≡ slot.Value z → result_seen (seen path) (value_of v) ≡ unless (if is_indeterminate (tree.Leaf z) then Some rule.Indeterminate else None) z
load_value path v z e = go v e
  where
    value_inj : (a b : Scalar Path) → slot.Value a ≡ slot.Value b → a ≡ b
    value_inj a b e = cc

    go : (v : SlotView) → slot_seen path v ≡ slot.Value z → result_seen (seen path) (value_of v) ≡ told z
    go (view.Value scalar.Indeterminate) e = ap told (value_inj scalar.Indeterminate z e)
    go (view.Value (scalar.Int i)) e = ap told (value_inj (scalar.Int i) z e)
    go (view.Value scalar.Null) e = ap told (value_inj scalar.Null z e)
    go (view.Value (scalar.Place p)) e = ap told (value_inj (scalar.Place (path p)) z e)
    go (view.Phase p) e = absurd (cc)
    go (view.Active m) e = absurd (cc)

module _ (f : Form) (l : List SlotView) (at : Place) (w : Found) (walked : Walked f l at.node at.slot w) (path : Place → Path) (x : Tree) (ss : List Step) (show : Show path l f x) (leads : IsAt f ss at Leaf) where
  abbrev finds : Finds x ss w
  finds = found_there f at Leaf ss leads (omega arith) l w walked path x show

  pub loads_not : w.there ≡ false → Err rule.InactiveMember ≡ load_of x ss
  loads_not e = load_by x ss true (breaks x ss rule.OutOfLifetime) (breaks x ss rule.Indeterminate) (not_there f x ss (part_at at Leaf) w show.fits leads finds e) refl refl

  pub loads_dead : w.there ≡ true → w.dead ≡ true → Err rule.OutOfLifetime ≡ load_of x ss
  loads_dead e d = load_by x ss false true (breaks x ss rule.Indeterminate) (is_there f x ss (part_at at Leaf) w show.fits leads finds e) (is_dead_on f x ss (part_at at Leaf) w show.fits leads finds e d) refl

  -- what is there is a scalar
  pub record LeafThere : Type 0 where
    pub value : Scalar Path
    pub is : below x ss ≡ Some (tree.Leaf value)

  pub leaf_there : w.there ≡ true → LeafThere
  leaf_there e =
      let y = what_is_there f x ss (part_at at Leaf) w show.fits leads finds e in
      let k = part_framed f x ss (part_at at Leaf) y.0 show.fits leads y.1 in
      let v = leaf_of y.0 k.there in
      record { value = v.0; is = y.1 ∙ ap Some v.1 }

  pub loads : w.there ≡ true → w.dead ≡ false → result_seen (seen path) (value_of (slot_at l at.slot)) ≡ load_of x ss
  loads e d =
      let t = leaf_there e in
      let h = part_head path l f x show ss (part_at at Leaf) (tree.Leaf t.value) leads t.is in
      load_value path (slot_at l at.slot) t.value h.1
      ∙ ap (λ o. unless (if is_indeterminate (tree.Leaf t.value) then Some rule.Indeterminate else None) (scalar_of o)) (sym t.is)
      ∙ load_by x ss false false (is_indeterminate (tree.Leaf t.value)) (is_there f x ss (part_at at Leaf) w show.fits leads finds e)
      (no_dead_on f x ss (part_at at Leaf) w show.fits leads finds e d (tree.Leaf t.value) t.is refl) (ap (passes is_indeterminate) t.is)

-- writing

module _ (path : Place → Path) (l : List SlotView) (f : Form) (x : Tree) (show : Show path l f x) (ss : List Step) (p : Part) (y : Tree) (leads : below_of f ss ≡ Some p) (is : below x ss ≡ Some y) (g : Tree → Tree) (m : List SlotView) where
  abbrev frame : Framed f x ss p y
  frame = part_framed f x ss p y show.fits leads is

  -- new slots in place of those of the part
  pub put_over : Fits p.form (g y) → slots_seen path m ≡ over (slots_seen path l) p.slot (flat p.form (g y)) → Show path m f (changed g x ss)
  put_over h e =
      let k = frame in
      record {
        fits = k.fits g h;
        seen = e ∙ ap (λ t. over t p.slot (flat p.form (g y))) (show.seen ∙ k.as_was)
            ∙ over_part k.front (flat p.form y) (flat p.form (g y)) k.back p.slot k.from (flat_length p.form y k.there ∙ sym (flat_length p.form (g y) h))
            ∙ sym (k.as_new g);
      }

  -- a new first slot
  pub put_first : Fits p.form (g y) → (a b : Slot) (rest : List Slot) → flat p.form y ≡ a ∷ rest → flat p.form (g y) ≡ b ∷ rest → slots_seen path m ≡ over (slots_seen path l) p.slot (b ∷ []) → Show path m f (changed g x ss)
  put_first h a b rest was now e =
      let k = frame in
      record {
        fits = k.fits g h;
        seen = e ∙ ap (λ t. over t p.slot (b ∷ [])) (show.seen ∙ k.as_was ∙ ap (λ t. k.front ++ (t ++ k.back)) was)
            ∙ over_part k.front (a ∷ []) (b ∷ []) (rest ++ k.back) p.slot k.from refl
            ∙ ap (λ t. k.front ++ (t ++ k.back)) (sym now) ∙ sym (k.as_new g);
      }

  -- nothing new
  pub put_same : g y ≡ y → m ≡ l → Show path m f (changed g x ss)
  put_same h e =
      let k = frame in
      record {
        fits = k.fits g (subst (Fits p.form) (sym h) k.there);
        seen = ap (slots_seen path) e ∙ show.seen ∙ k.as_was ∙ ap (λ t. k.front ++ (flat p.form t ++ k.back)) (sym h) ∙ sym (k.as_new g);
      }

-- the rules of a write, and what is written

abbrev reach_by : Bool → Option Rule
reach_by a = if a then Some rule.InactiveMember else None

module _ (path : Place → Path) (f : Form) (x : Tree) (ss : List Step) (g : Tree → Tree) (old : List SlotView) where
  pub reach_not : breaks x ss rule.InactiveMember ≡ true → Writes path f x ss g (reach_rule x ss) old old (Err rule.InactiveMember)
  reach_not e = subst (λ a. Writes path f x ss g (reach_by a) old old (Err rule.InactiveMember)) (sym e) (refl, refl)

  pub reached : (new : List SlotView) → breaks x ss rule.InactiveMember ≡ false → Show path new f (changed g x ss) → Writes path f x ss g (reach_rule x ss) old new (Ok tt)
  reached new e h = subst (λ a. Writes path f x ss g (reach_by a) old new (Ok tt)) (sym e) (refl, h)

-- the value of a scalar is another
module _ (f : Form) (l : List SlotView) (at : Place) (w : Found) (walked : Walked f l at.node at.slot w) (path : Place → Path) (x : Tree) (ss : List Step) (show : Show path l f x) (leads : IsAt f ss at Leaf) (v : Scalar Place) where
  abbrev now_leaf : Tree → Tree
  now_leaf _ = tree.Leaf (seen path v)

  pub inits_not : w.there ≡ false → Writes path f x ss now_leaf (reach_rule x ss) l l (Err rule.InactiveMember)
  inits_not e = reach_not path f x ss now_leaf l (not_there f x ss (part_at at Leaf) w show.fits leads (finds f l at w walked path x ss show leads) e)

  value_put : w.there ≡ true → Show path (set l at.slot (view.Value v)) f (changed now_leaf x ss)
  value_put e =
      let t = leaf_there f l at w walked path x ss show leads e in
      put_over path l f x show ss (part_at at Leaf) (tree.Leaf t.value) leads t.is now_leaf (set l at.slot (view.Value v)) tt (seen_over path l at.slot (view.Value v))

  pub inits : w.there ≡ true → Writes path f x ss now_leaf (reach_rule x ss) l (set l at.slot (view.Value v)) (Ok tt)
  inits e = reached path f x ss now_leaf l (set l at.slot (view.Value v)) (is_there f x ss (part_at at Leaf) w show.fits leads (finds f l at w walked path x ss show leads) e) (value_put e)

-- and where the object's type says whether anything may write there

abbrev store_by : Bool → Bool → Bool → Option Rule
store_by sealed a b = or_sealed sealed (if a then Some rule.InactiveMember else if b then Some rule.OutOfLifetime else None)

module _ (f : Form) (l : List SlotView) (at : Place) (w : Found) (walked : Walked f l at.node at.slot w) (path : Place → Path) (x : Tree) (ss : List Step) (show : Show path l f x) (leads : IsAt f ss at Leaf) (v : Scalar Place) (sealed : Bool) where
  abbrev stored : List SlotView → Result (Unit {0}) Rule → Bool → Bool → Bool → Type 0
  stored new result s a b = Writes path f x ss (now_leaf f l at w walked path x ss show leads v) (store_by s a b) l new result

  store_is : (new : List SlotView) (result : Result (Unit {0}) Rule) (s a b : Bool) → sealed ≡ s → breaks x ss rule.InactiveMember ≡ a → breaks x ss rule.OutOfLifetime ≡ b → stored new result s a b → stored new result sealed (breaks x ss rule.InactiveMember) (breaks x ss rule.OutOfLifetime)
  store_is new result s a b d e h k = subst (λ t. stored new result t (breaks x ss rule.InactiveMember) (breaks x ss rule.OutOfLifetime)) (sym d) (subst (λ t. stored new result s t (breaks x ss rule.OutOfLifetime)) (sym e) (subst (λ t. stored new result s a t) (sym h) k))

  no_leaf_dead : w.there ≡ true → w.dead ≡ false → breaks x ss rule.OutOfLifetime ≡ false
  no_leaf_dead e d =
      let t = leaf_there f l at w walked path x ss show leads e in
      no_dead_on f x ss (part_at at Leaf) w show.fits leads (finds f l at w walked path x ss show leads) e d (tree.Leaf t.value) t.is refl

  pub stores_not : w.there ≡ false → stored l (Err rule.InactiveMember) sealed (breaks x ss rule.InactiveMember) (breaks x ss rule.OutOfLifetime)
  stores_not e = store_is l (Err rule.InactiveMember) sealed true (breaks x ss rule.OutOfLifetime) refl (not_there f x ss (part_at at Leaf) w show.fits leads (finds f l at w walked path x ss show leads) e) refl (refl, refl)

  pub stores_dead : w.there ≡ true → w.dead ≡ true → stored l (Err rule.OutOfLifetime) sealed (breaks x ss rule.InactiveMember) (breaks x ss rule.OutOfLifetime)
  stores_dead e d = store_is l (Err rule.OutOfLifetime) sealed false true refl (is_there f x ss (part_at at Leaf) w show.fits leads (finds f l at w walked path x ss show leads) e) (is_dead_on f x ss (part_at at Leaf) w show.fits leads (finds f l at w walked path x ss show leads) e d) (refl, refl)

  pub stores_sealed : w.there ≡ true → w.dead ≡ false → sealed ≡ true → stored l (Err rule.ConstWrite) sealed (breaks x ss rule.InactiveMember) (breaks x ss rule.OutOfLifetime)
  stores_sealed e d s = store_is l (Err rule.ConstWrite) true false false s (is_there f x ss (part_at at Leaf) w show.fits leads (finds f l at w walked path x ss show leads) e) (no_leaf_dead e d) (refl, refl)

  pub stores : w.there ≡ true → w.dead ≡ false → sealed ≡ false → stored (set l at.slot (view.Value v)) (Ok tt) sealed (breaks x ss rule.InactiveMember) (breaks x ss rule.OutOfLifetime)
  stores e d s = store_is (set l at.slot (view.Value v)) (Ok tt) false false false s (is_there f x ss (part_at at Leaf) w show.fits leads (finds f l at w walked path x ss show leads) e) (no_leaf_dead e d) (refl, value_put f l at w walked path x ss show leads v e)

pub not_true : (b : Bool) → not b ≡ true → b ≡ false
not_true true e = absurd (true≢false (sym e))
not_true false e = refl

pub not_false : (b : Bool) → not b ≡ false → b ≡ true
not_false true e = refl
not_false false e = absurd (true≢false e)
