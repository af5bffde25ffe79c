-- A union's new active member, or none.
use Rattle.std.proofs.Common.{◌≡◌, ℕ, zero, suc, ◌+◌, ◌-◌, ◌≤◌, ◌<◌, ◌==◌, Bool, true, false, true≢false, not, ◌&&◌, List, [], ◌∷◌, ◌++◌, length, None, Some, Ok, Err, refl, sym, ap, subst, ◌∙◌, arith, slice_get, append_assoc, eqb-true, if◌then◌else◌}
use Rattle.std.proofs.Math.ListN.{set}
use Rattle.cx_base.specs.declared.rule.Rule.TheVariants as rule
use Rattle.cx_type_defs.specs.declared.ids.Step.{Step}
use Rattle.cx_type_defs.specs.declared.ids.Step.TheVariants as step
use Rattle.cx_type_defs.specs.declared.ids.ClassId.{ClassId}
use Rattle.cx_state.specs.declared.kind.Phase.{Phase}
use Rattle.cx_state.specs.declared.kind.Phase.TheVariants as phase
use Rattle.cx_state.specs.Objects.{Path, Tree, below, changed}
use Rattle.cx_state.specs.Objects as tree
use Rattle.cx_state.specs.Steps.{activated, deactivated, is_ended}
use Rattle.cx_layout.specs.declared.columns.Kind.{Kind}
use Rattle.cx_layout.specs.declared.columns.Under.{Under}
use Rattle.cx_layout.specs.declared.columns.Node.{Node}
use Rattle.cx_layout.specs.declared.place.Place.{Place}
use Rattle.cx_layout.specs.Forms.{Form, Forms, Leaf, Row, Class, End, More, nodes, cells, cells_in, Part, further, whole, item}
use Rattle.cx_layout.specs.Laid.{kind_of, Listed, Laid}
use Rattle.cx_layout.specs.Described.{Described}
use Rattle.cx_layout.proofs.Options.{some_inj, map_some}
use Rattle.cx_layout.proofs.Fitting.{item_inside}
use Rattle.cx_layout.proofs.Filling.{get_within}
use Rattle.cx_layout.proofs.Parts.{laid_node, part_laid, item_listed, item_laid}
use Rattle.cx_slots.specs.declared.slot.SlotView.{SlotView}
use Rattle.cx_slots.specs.declared.slot.SlotView.TheVariants as view
use Rattle.cx_slots.specs.Slots.{Slot, slot_seen, slots_seen}
use Rattle.cx_slots.specs.Slots as slot
use Rattle.cx_slots.specs.Flat.{Fits, MemberFits, blanks, cells_at, flat, flat_member}
use Rattle.cx_slots.specs.Fresh.{fresh, new_slots, over}
use Rattle.cx_slots.proofs.Over.{over_twice}
use Rattle.cx_slots.proofs.Fresh.{fresh_fits, new_length}
use Rattle.cx_slots.proofs.Frames.{part_framed}
use Rattle.cx_slot_calls.specs.declared.way.Found.{Found}
use Rattle.cx_slot_calls.specs.Rules.{Show, IsUnionAt, reach_rule, Writes}
use Rattle.cx_slot_calls.specs.Fills.{Blanked, Filled}
use Rattle.cx_slot_calls.specs.Walks.{slot_at, shows_member, shows_ended, is_ended_phase, is_class_kind, keeps, Finds, Walked}
use Rattle.cx_slot_calls.proofs.Opening.{first_of, seen_at}
use Rattle.cx_slot_calls.proofs.Walking.{part_head}
use Rattle.cx_slot_calls.proofs.Filling.{seen_over, node_cells}
use Rattle.cx_slot_calls.proofs.Accesses.{part_at, at_within, found_there, not_there, is_there, what_is_there, put_over, put_same, reach_not, reached}

abbrev pub union_form : ClassId → Forms → Form
union_form c ms = Class c true End ms

-- a member's own slots

member_flat : (ms : Forms) (m : ℕ) (a : Part) (x : Tree) → item true ms m ≡ Some a → (flat_member ms m x ≡ flat a.form x) × (cells_at ms m ≡ cells a.form) × (a.slot ≡ 0)
member_flat End m a x e = absurd (cc)
member_flat (More f fs) zero a x e = subst (λ (q : Part). (flat f x ≡ flat q.form x) × (cells f ≡ cells q.form) × (q.slot ≡ 0)) (some_inj (whole f) a e) (refl, refl, refl)
member_flat (More f fs) (suc m) a x e =
    let h = map_some (further (nodes f) 0) (item true fs m) a e in
    let r = member_flat fs m h.0 x h.1 in
    let z : 0 + h.0.slot ≡ 0 = (let y = r.2 in omega arith) in
    subst (λ (q : Part). (flat_member fs m x ≡ flat q.form x) × (cells_at fs m ≡ cells q.form) × (q.slot ≡ 0)) h.2 (r.0, r.1, z)

member_fits : (ms : Forms) (m : ℕ) (a : Part) (x : Tree) → item true ms m ≡ Some a → Fits a.form x → MemberFits ms m x
member_fits End m a x e h = absurd (cc)
member_fits (More f fs) zero a x e h = subst (λ (q : Part). Fits q.form x) (sym (some_inj (whole f) a e)) h
member_fits (More f fs) (suc m) a x e h =
    let k = map_some (further (nodes f) 0) (item true fs m) a e in
    member_fits fs m k.0 x k.1 (subst (λ (q : Part). Fits q.form x) (sym k.2) h)

member_fit : (ms : Forms) (m : ℕ) (a : Part) (x : Tree) → item true ms m ≡ Some a → MemberFits ms m x → Fits a.form x
member_fit End m a x e h = absurd (cc)
member_fit (More f fs) zero a x e h = subst (λ (q : Part). Fits q.form x) (some_inj (whole f) a e) h
member_fit (More f fs) (suc m) a x e h =
    let k = map_some (further (nodes f) 0) (item true fs m) a e in
    subst (λ (q : Part). Fits q.form x) k.2 (member_fit fs m k.0 x k.1 h)

-- whether the first slot of a member shows that its life has ended

abbrev ended_seen : Slot → Bool
ended_seen (slot.Header p) = is_ended_phase p
ended_seen _ = false

ended_same : (path : Place → Path) (v : SlotView) → shows_ended v ≡ ended_seen (slot_seen path v)
ended_same path (view.Value v) = refl
ended_same path (view.Phase p) = refl
ended_same path (view.Active m) = refl

ended_phase : (p : Phase) (xs ys : tree.Trees) → is_ended_phase p ≡ is_ended (tree.Class p xs ys)
ended_phase phase.Unborn xs ys = refl
ended_phase phase.Bases xs ys = refl
ended_phase phase.Body xs ys = refl
ended_phase phase.Alive xs ys = refl
ended_phase phase.Ending xs ys = refl
ended_phase phase.EndingBases xs ys = refl
ended_phase phase.Ended xs ys = refl

ended_is : (path : Place → Path) (g : Form) (x : Tree) (v : SlotView) (more : List Slot) → Fits g x → slot_seen path v ≡ first_of (flat g x ++ more) 0 → (is_class_kind (kind_of g) && shows_ended v) ≡ is_ended x
ended_is path Leaf (tree.Leaf u) v more h e = refl
ended_is path (Row n f) (tree.Row xs) v more h e = refl
ended_is path (Class c false bs ms) (tree.Class p xs ys) v more h e = ended_same path v ∙ ap ended_seen e ∙ ended_phase p xs ys
ended_is path (Class c true bs ms) tree.Union v more h e = ended_same path v ∙ ap ended_seen e
ended_is path (Class c true bs ms) (tree.Active m x) v more h e = ended_same path v ∙ ap ended_seen e
ended_is path g x v more h e = absurd h

-- whether the active member stays

abbrev active_seen : Slot → ℕ → Bool
active_seen (slot.Active (Some k)) m = k == m
active_seen _ m = false

active_same : (path : Place → Path) (v : SlotView) (m : ℕ) → shows_member v m ≡ active_seen (slot_seen path v) m
active_same path (view.Value v) m = refl
active_same path (view.Phase p) m = refl
active_same path (view.Active None) m = refl
active_same path (view.Active (Some k)) m = refl

abbrev stays_in : Tree → ℕ → Bool
stays_in (tree.Active k x) m = (k == m) && not (is_ended x)
stays_in _ m = false

stays_same : (c : ClassId) (ms : Forms) (m : ℕ) (new y : Tree) → Fits (union_form c ms) y → stays_in y m ≡ true → activated m new y ≡ y
stays_same c ms m new tree.Union h e = absurd (true≢false (sym e))
stays_same c ms m new (tree.Active k x) h e = ap (λ b. if b then tree.Active k x else tree.Active m new) e
stays_same c ms m new y h e = absurd h

stays_not : (c : ClassId) (ms : Forms) (m : ℕ) (new y : Tree) → Fits (union_form c ms) y → stays_in y m ≡ false → activated m new y ≡ tree.Active m new
stays_not c ms m new tree.Union h e = refl
stays_not c ms m new (tree.Active k x) h e = ap (λ b. if b then tree.Active k x else tree.Active m new) e
stays_not c ms m new y h e = absurd h

module _ (path : Place → Path) (c : ClassId) (ms : Forms) (m : ℕ) (a : Part) (is_a : item true ms m ≡ Some a) (header first : SlotView) where
  keeps_is : (y : Tree) (back : List Slot) → Fits (union_form c ms) y → slot_seen path header ≡ first_of (flat (union_form c ms) y ++ back) 0 → slot_seen path first ≡ first_of (flat (union_form c ms) y ++ back) 1 → keeps header m (kind_of a.form) first ≡ stays_in y m
  keeps_is tree.Union back h e d = ap (λ b. b && not (is_class_kind (kind_of a.form) && shows_ended first)) (active_same path header m ∙ ap (λ s. active_seen s m) e)
  keeps_is (tree.Active k x) back h e d =
      ap (λ b. b && not (is_class_kind (kind_of a.form) && shows_ended first)) (active_same path header m ∙ ap (λ s. active_seen s m) e) ∙ go (k == m) refl
    where
      go : (b : Bool) → (k == m) ≡ b → ((k == m) && not (is_class_kind (kind_of a.form) && shows_ended first)) ≡ ((k == m) && not (is_ended x))
      go false n = ap (λ b. b && not (is_class_kind (kind_of a.form) && shows_ended first)) n ∙ ap (λ b. b && not (is_ended x)) (sym n)
      go true n =
          let z : k ≡ m = eqb-true k m n in
          let is_k : item true ms k ≡ Some a = ap (item true ms) z ∙ is_a in
          let r = member_flat ms k a x is_k in
          ap (λ b. (k == m) && not b) (ended_is path a.form x first (blanks (cells_in true ms - cells_at ms k) ++ back) (member_fit ms k a x is_k h)
          (d ∙ ap (λ t. first_of t 0) (append_assoc (flat_member ms k x) (blanks (cells_in true ms - cells_at ms k)) back ∙ ap (λ t. t ++ (blanks (cells_in true ms - cells_at ms k) ++ back)) r.0)))
  keeps_is y back h e d = absurd h

-- where a union and its member stand in the columns

module _ (ns : List Node) (ks : List ℕ) (f : Form) (described : Described ns ks f) (at : Place) (ss : List Step) (c : ClassId) (ms : Forms) (leads : IsUnionAt f ss at c ms) where
  pub union_laid : Laid ns ks at.node (union_form c ms)
  union_laid = part_laid ns ks f ss (part_at at (union_form c ms)) described.laid leads

  pub union_within : at.slot + cells (union_form c ms) ≤ cells f
  union_within = at_within f at (union_form c ms) ss leads (omega arith)

  module _ (row : Node) (r : slice_get ns at.node ≡ Some row) where
    pub union_cells : row.cells ≡ suc (cells_in true ms)
    union_cells = let e = node_cells ns ks at.node (union_form c ms) row union_laid r in omega arith

    module _ (m : ℕ) (a : Part) (is_a : item true ms m ≡ Some a) where
      pub member_listed : slice_get ks (row.members_from + m) ≡ Some (at.node + 1 + a.node)
      member_listed =
          let h = union_laid in
          let d : h.0.row ≡ row = some_inj h.0.row row (sym h.0.is_row ∙ r) in
          item_listed ks true ms row.members_from (at.node + 1) m a (subst (λ (x : Node). Listed ks x.members_from (at.node + 1) ms) d h.2) is_a

      pub record Member (node : ℕ) (part : Node) : Type 0 where
        pub laid : Laid ns ks node a.form
        pub start : part.under.offset ≡ 1
        pub kind : kind_of a.form ≡ part.kind
        pub cells_are : part.cells ≡ cells a.form
        -- the member lies in the union, and the union in the whole
        pub inside : part.under.offset + part.cells ≤ row.cells
        pub room : at.slot + row.cells ≤ cells f

      pub member_node : (node : ℕ) → slice_get ks (row.members_from + m) ≡ Some node → node ≡ at.node + 1 + a.node
      member_node node l = some_inj node (at.node + 1 + a.node) (sym l ∙ member_listed)

      pub member_is : (node : ℕ) (part : Node) → slice_get ks (row.members_from + m) ≡ Some node → slice_get ns node ≡ Some part → Member node part
      member_is node part l p =
          let n = member_node node l in
          let u = item_laid ns ks at.node step.Field true ms 0 (at.node + 1) 1 m a union_laid.4 is_a in
          let b : u.is_under.row ≡ part = some_inj u.is_under.row part (sym u.is_under.is_row ∙ ap (slice_get ns) (sym n) ∙ p) in
          let z = (member_flat ms m a tree.Union is_a).2 in
          let o : part.under.offset ≡ 1 + a.slot = ap (λ (x : Node). x.under.offset) (sym b) ∙ ap (λ (x : Under). x.offset) u.is_under.under_is in
          let laid : Laid ns ks node a.form = subst (λ k. Laid ns ks k a.form) (sym n) u.laid in
          let k = laid_node ns ks node a.form laid in
          let i = (item_inside true ms m a is_a).in_cells in
          let e = node_cells ns ks node a.form part laid p in
          let v = union_cells in
          let w = union_within in
          record {
            laid = laid;
            start = omega arith;
            kind = sym k.kind ∙ ap (λ (x : Node). x.kind) (some_inj k.row part (sym k.is_row ∙ p));
            cells_are = e;
            inside = omega arith;
            room = omega arith;
          }

      pub member_there : (node : ℕ) → slice_get ks (row.members_from + m) ≡ Some node → node < length ns
      member_there node l =
          let u = item_laid ns ks at.node step.Field true ms 0 (at.node + 1) 1 m a union_laid.4 is_a in
          subst (λ k. k < length ns) (sym (member_node node l)) (get_within ns (at.node + 1 + a.node) u.is_under.row u.is_under.is_row)

pub some_cells : (g : Form) → is_class_kind (kind_of g) ≡ true → 1 ≤ cells g
some_cells Leaf e = omega arith
some_cells (Row n f) e = absurd (true≢false (sym e))
some_cells (Class c u bs ms) e = omega arith

-- what is written

module _ (f : Form) (l : List SlotView) (at : Place) (w : Found) (walked : Walked f l at.node at.slot w) (path : Place → Path) (x : Tree) (ss : List Step) (c : ClassId) (ms : Forms) (show : Show path l f x) (leads : IsUnionAt f ss at c ms) where
  abbrev u : Form
  u = union_form c ms

  finds : Finds x ss w
  finds = found_there f at u ss leads (omega arith) l w walked path x show

  pub union_not : (g : Tree → Tree) → w.there ≡ false → Writes path f x ss g (reach_rule x ss) l l (Err rule.InactiveMember)
  union_not g e = reach_not path f x ss g l (not_there f x ss (part_at at u) w show.fits leads finds e)

  no_member : (y : Tree) → Fits u y → deactivated y ≡ tree.Union
  no_member tree.Union h = refl
  no_member (tree.Active k z) h = refl
  no_member y h = absurd h

  pub deactivates : (row : Node) (k : List SlotView) → row.cells ≡ suc (cells_in true ms) → w.there ≡ true → Blanked (at.slot + 1) (at.slot + row.cells - (at.slot + 1)) (set l at.slot (view.Active None)) k → Writes path f x ss deactivated (reach_rule x ss) l k (Ok tt)
  deactivates row k d e b =
      let y = what_is_there f x ss (part_at at u) w show.fits leads finds e in
      let fits = (part_framed f x ss (part_at at u) y.0 show.fits leads y.1).there in
      let z = no_member y.0 fits in
      let s : List Slot = slots_seen path l in
      let n : at.slot + row.cells - (at.slot + 1) ≡ cells_in true ms = omega arith in
      reached path f x ss deactivated l k (is_there f x ss (part_at at u) w show.fits leads finds e)
      (put_over path l f x show ss (part_at at u) y.0 leads y.1 deactivated k (subst (Fits u) (sym z) tt)
      (b path ∙ ap (λ t. over (slots_seen path (set l at.slot (view.Active None))) (at.slot + 1) (blanks t)) n
      ∙ ap (λ t. over t (at.slot + 1) (blanks (cells_in true ms))) (seen_over path l at.slot (view.Active None))
      ∙ over_twice s at.slot (at.slot + 1) (slot.Active None ∷ []) (blanks (cells_in true ms)) refl
      ∙ ap (λ t. over s at.slot (flat u t)) (sym z)))

  module _ (m : ℕ) (p : Phase) (a : Part) (is_a : item true ms m ≡ Some a) (start : ℕ) (is_start : start ≡ at.slot + 1) where
    abbrev now : Tree → Tree
    now = activated m (fresh p a.form)

    -- the two first slots say whether the member stays
    kept : (y : Tree) → below x ss ≡ Some y → keeps (slot_at l at.slot) m (kind_of a.form) (slot_at l start) ≡ stays_in y m
    kept y e =
        let h = part_head path l f x show ss (part_at at u) y leads e in
        let k = h.0 in
        let q : slot_seen path (slot_at l start) ≡ first_of (flat u y ++ k.back) 1 =
        seen_at path l start ∙ ap (first_of (slots_seen path l)) is_start ∙ ap (λ t. first_of t (at.slot + 1)) (show.seen ∙ k.as_was) ∙ second k.front (flat u y ++ k.back) at.slot k.from in
        keeps_is path c ms m a is_a (slot_at l at.slot) (slot_at l start) y k.back k.there h.1 q
      where
        second : (front rest : List Slot) (n : ℕ) → length front ≡ n → first_of (front ++ rest) (n + 1) ≡ first_of rest 1
        second [] rest zero h = refl
        second [] rest (suc n) h = absurd (cc)
        second (x ∷ front) rest zero h = absurd (cc)
        second (x ∷ front) rest (suc n) h = let v : suc n + 1 ≡ suc (n + 1) = omega arith in ap (first_of (x ∷ (front ++ rest))) v ∙ second front rest n (cc)

    pub activates_not : (k : Kind) → kind_of a.form ≡ k → w.there ≡ true → keeps (slot_at l at.slot) m k (slot_at l start) ≡ true → Writes path f x ss now (reach_rule x ss) l l (Ok tt)
    activates_not k d e b =
        let y = what_is_there f x ss (part_at at u) w show.fits leads finds e in
        let fits = (part_framed f x ss (part_at at u) y.0 show.fits leads y.1).there in
        let z = stays_same c ms m (fresh p a.form) y.0 fits (sym (kept y.0 y.1) ∙ ap (λ t. keeps (slot_at l at.slot) m t (slot_at l start)) d ∙ b) in
        reached path f x ss now l l (is_there f x ss (part_at at u) w show.fits leads finds e) (put_same path l f x show ss (part_at at u) y.0 leads y.1 now l z refl)

    pub activates : (ns : List Node) (ks : List ℕ) (node : ℕ) (part row : Node) (n k : List SlotView) → Laid ns ks node a.form → kind_of a.form ≡ part.kind → part.cells ≡ cells a.form → row.cells ≡ suc (cells_in true ms) → w.there ≡ true
        → keeps (slot_at l at.slot) m part.kind (slot_at l start) ≡ false → Filled ns ks p node start (set l at.slot (view.Active (Some m))) n → Blanked (start + part.cells) (at.slot + row.cells - (start + part.cells)) n k
        → Writes path f x ss now (reach_rule x ss) l k (Ok tt)
    activates ns ks node part row n k laid d pc rc e b fill blank =
        let y = what_is_there f x ss (part_at at u) w show.fits leads finds e in
        let fits = (part_framed f x ss (part_at at u) y.0 show.fits leads y.1).there in
        let z = stays_not c ms m (fresh p a.form) y.0 fits (sym (kept y.0 y.1) ∙ ap (λ t. keeps (slot_at l at.slot) m t (slot_at l start)) d ∙ b) in
        let fit : Fits u (tree.Active m (fresh p a.form)) = member_fits ms m a (fresh p a.form) is_a (fresh_fits p a.form) in
        let g = member_flat ms m a (fresh p a.form) is_a in
        let g1 = g.1 in
        let nl = new_length p a.form in
        let s : List Slot = slots_seen path l in
        let pad : ℕ = cells_in true ms - cells_at ms m in
        let x1 : at.slot + row.cells - (start + part.cells) ≡ pad = omega arith in
        let x2 : start + part.cells ≡ at.slot + suc (length (new_slots p a.form)) = omega arith in
        reached path f x ss now l k (is_there f x ss (part_at at u) w show.fits leads finds e)
        (put_over path l f x show ss (part_at at u) y.0 leads y.1 now k (subst (Fits u) (sym z) fit)
        (blank path ∙ ap (λ t. over (slots_seen path n) (start + part.cells) (blanks t)) x1
        ∙ ap (λ t. over t (start + part.cells) (blanks pad)) (fill path a.form laid
        ∙ ap (λ t. over t start (new_slots p a.form)) (seen_over path l at.slot (view.Active (Some m)))
        ∙ over_twice s at.slot start (slot.Active (Some m) ∷ []) (new_slots p a.form) is_start)
        ∙ over_twice s at.slot (start + part.cells) (slot.Active (Some m) ∷ new_slots p a.form) (blanks pad) x2
        ∙ ap (λ t. over s at.slot (slot.Active (Some m) ∷ (t ++ blanks pad))) (sym g.0)
        ∙ ap (λ t. over s at.slot (flat u t)) (sym z)))
