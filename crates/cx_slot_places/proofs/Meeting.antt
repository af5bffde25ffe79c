-- How two parts lie to each other, step by step.
use Rattle.std.proofs.Common.{◌≡◌, ℕ, ◌+◌, ◌*◌, ◌≤◌, ◌<◌, nat_lt, Bool, true, false, true≢false, List, [], ◌∷◌, ◌++◌, Some, refl, sym, ap, subst, ◌∙◌, arith, slice_get, if◌then◌else◌}
use Rattle.std.proofs.lemmas.Bool.{false_from_ne_true}
use Rattle.std.specs.Prelude.{option_map, option_and_then}
use Rattle.cx_type_defs.specs.declared.ids.Step.{Step}
use Rattle.cx_type_defs.specs.declared.ids.Step.TheVariants as step
use Rattle.cx_state.specs.Objects.{same_step}
use Rattle.cx_state.proofs.Paths.{same_step-true, same_step-is}
use Rattle.cx_layout.specs.declared.columns.Under.{Under}
use Rattle.cx_layout.specs.declared.columns.Node.{Node}
use Rattle.cx_layout.specs.Forms.{Form, Leaf, Row, Class, cells, Part, further, whole, part_of, below_of}
use Rattle.cx_layout.specs.Laid.{kind_of}
use Rattle.cx_layout.specs.Described.{Described}
use Rattle.cx_layout.specs.Walks.{IsIn}
use Rattle.cx_layout.proofs.Options.{some_inj, and_then_some, map_some, if_some}
use Rattle.cx_layout.proofs.Fitting.{part_inside}
use Rattle.cx_layout.proofs.Walking.{Above, Showing, Element, ABase, AMember, node_sum}
use Rattle.cx_slot_places.specs.declared.walk.Next.{Next}
use Rattle.cx_slot_places.specs.declared.meet.Meeting.{Meeting}
use Rattle.cx_slot_places.specs.declared.meet.Meeting.TheVariants as meeting
use Rattle.cx_slot_places.specs.Pointers.{is_union}
use Rattle.cx_slot_places.specs.Walks.{Within, stepped, CanGoOn, IsMeeting, Meets, is_union_kind, gone_on, apart_or_same, both_on, turned}
use Rattle.cx_slot_places.proofs.Walking.{within_in, in_within, whole_within, up, up_within, under_is, up_showing, kind_above, can_step_from, step_from}

append_more : (xs ys zs : List Step) → (xs ++ ys) ++ zs ≡ xs ++ (ys ++ zs)
append_more [] ys zs = refl
append_more (x ∷ xs) ys zs = ap (λ l. x ∷ l) (append_more xs ys zs)

-- a part that more steps lead to has a later node
pub record Beyond (outer : Part) (s : Step) (q : Part) : Type 0 where
  pub inner : Part
  pub is_inner : part_of outer.form s ≡ Some inner
  pub later : 1 ≤ inner.node
  pub nodes : outer.node + inner.node ≤ q.node

pub beyond : (f : Form) (init : List Step) (s : Step) (rest : List Step) (outer q : Part) → below_of f init ≡ Some outer → below_of f (init ++ s ∷ rest) ≡ Some q → Beyond outer s q
beyond f [] s rest outer q e h =
    let a = and_then_some (λ (p : Part). option_map (further p.node p.slot) (below_of p.form rest)) (part_of f s) q h in
    let b = map_some (further a.0.node a.0.slot) (below_of a.0.form rest) q a.2 in
    let n : a.0.node + b.0.node ≡ q.node = ap (λ (p : Part). p.node) b.2 in
    subst (λ o. Beyond o s q) (some_inj (whole f) outer e) (record { inner = a.0; is_inner = a.1; later = (part_inside f s a.0 a.1).1; nodes = omega arith })
beyond f (t ∷ init) s rest outer q e h =
    let a = and_then_some (λ (p : Part). option_map (further p.node p.slot) (below_of p.form (init ++ s ∷ rest))) (part_of f t) q h in
    let b = map_some (further a.0.node a.0.slot) (below_of a.0.form (init ++ s ∷ rest)) q a.2 in
    let e2 : option_map (further a.0.node a.0.slot) (below_of a.0.form init) ≡ Some outer = ap (option_and_then (λ (p : Part). option_map (further p.node p.slot) (below_of p.form init))) (sym a.1) ∙ e in
    let c = map_some (further a.0.node a.0.slot) (below_of a.0.form init) outer e2 in
    let i = beyond a.0.form init s rest c.0 b.0 c.1 b.1 in
    let m : a.0.node + c.0.node ≡ outer.node = ap (λ (p : Part). p.node) c.2 in
    let n : a.0.node + b.0.node ≡ q.node = ap (λ (p : Part). p.node) b.2 in
    let o = i.nodes in
    record { inner = i.inner; is_inner = ap (λ (p : Part). part_of p.form s) (sym c.2) ∙ i.is_inner; later = i.later; nodes = omega arith }

pub union_kind : (g : Form) → is_union_kind (kind_of g) ≡ is_union g
union_kind Leaf = refl
union_kind (Row n g) = refl
union_kind (Class c u bs ms) = refl

-- the whole
pub whole_meets : (f : Form) (a slot b other : ℕ) → a ≡ 0 → b ≡ 0 → Meets f a slot b other (meeting.Same 0)
whole_meets f a slot b other z y ss us p q h k =
    let x = whole_within f a slot z ss p h in
    let w = whole_within f b other y us q k in
    (x.0 ∙ sym w.0, sym x.1)

-- seen from the other part
pub turns : (f : Form) (a slot b other : ℕ) (m : Meeting) → Meets f a slot b other m → Meets f b other a slot (turned m)
turns f a slot b other m g us ss q p k h = go m (g ss us p q h k)
  where
    go : (m : Meeting) → IsMeeting f ss us p.slot m → IsMeeting f us ss q.slot (turned m)
    go (meeting.Same start) e = (sym e.0, e.1 ∙ ap (λ (x : Part). x.slot) (some_inj p q (sym h.leads ∙ ap (below_of f) e.0 ∙ k.leads)))
    go (meeting.Inner s) e = e
    go (meeting.Outer s) e = e
    go (meeting.Apart x) e = record {
      both = e.both;
      part = e.part;
      leads = e.leads;
      after = e.others;
      others = e.after;
      first = e.second;
      second = e.first;
      differ = false_from_ne_true (same_step x.right x.left) (λ w. true≢false (sym (same_step-is x.left x.right (sym (same_step-true x.right x.left w))) ∙ e.differ));
      in_union = e.in_union;
    }

module _ (ns : List Node) (ks : List ℕ) (f : Form) (d : Described ns ks f) (a slot : ℕ) (later : 1 ≤ a) (row : Node) (r : slice_get ns a ≡ Some row) (above : Node) (v : slice_get ns row.under.parent ≡ Some above) where
  -- the first goes on
  module _ (b other : ℕ) (m : Meeting) (g : Meets f row.under.parent slot b other m) where
    module _ (h : IsIn ns ks f a slot) (k : IsIn ns ks f b other) where
      abbrev v1 : Within f a slot h.steps h.part
      v1 = in_within ns ks f a slot h

      abbrev o1 : Above ns ks f h.steps h.part
      o1 = up ns ks f a slot d later row r h.steps h.part v1

      pub may_go_on : CanGoOn row m slot
      may_go_on = go m (g o1.init k.steps o1.outer k.part (up_within ns ks f a slot d later row r h.steps h.part v1) (in_within ns ks f b other k))
        where
          go : (m : Meeting) → IsMeeting f o1.init k.steps o1.outer.slot m → CanGoOn row m slot
          go (meeting.Same start) e = can_step_from ns ks f a slot d later row r h.steps h.part v1 start e.1
          go (meeting.Inner s) e = tt
          go (meeting.Outer s) e = tt
          go (meeting.Apart x) e = tt

    module _ (less : b < a) (ss us : List Step) (p q : Part) (h : Within f a slot ss p) (k : Within f b other us q) where
      abbrev o : Above ns ks f ss p
      o = up ns ks f a slot d later row r ss p h

      in_union : is_union_kind above.kind ≡ is_union o.outer.form
      in_union = ap is_union_kind (kind_above ns ks f a slot d later row r ss p h above v) ∙ union_kind o.outer.form

      sum : o.outer.node + o.inner.node ≡ a
      sum = node_sum ns ks f a slot (within_in ns ks f a slot d ss p h) later row r

      -- the second goes on from the first's outer part by another step, and that one is listed
      step_shown : (t : Step) → Beyond o.outer t q → o.last_step ≡ row.under.step
      step_shown t x = shows (up_showing ns ks f a slot d later row r ss p h)
        where
          shows : Showing o.outer.form o.last_step o.inner o.outer.node → o.last_step ≡ row.under.step
          shows (ABase i se sh) = se ∙ sym (ap (λ (u : Under). u.step) (under_is ns ks f a slot d later row r ss p h ∙ sh))
          shows (AMember i se sh) = se ∙ sym (ap (λ (u : Under). u.step) (under_is ns ks f a slot d later row r ss p h ∙ sh))
          shows (Element n e i fe se so sh) =
              let y = if_some (nat_lt i n) (record { node = 1; slot = i * cells e; form = e }) o.inner (ap (λ g. part_of g (step.Elem i)) (sym fe) ∙ ap (part_of o.outer.form) (sym se) ∙ o.is_inner) in
              let one : 1 ≡ o.inner.node = ap (λ (z : Part). z.node) y.1 in
              let l = x.later in
              let w = x.nodes in
              let c = sum in
              let z = k.node_is in
              absurd (omega arith)

      step_differs : (t : Step) → Beyond o.outer t q → same_step o.last_step t ≡ false
      step_differs t x = false_from_ne_true (same_step o.last_step t) (λ e.
          let same : o.inner ≡ x.inner = some_inj o.inner x.inner (sym o.is_inner ∙ ap (part_of o.outer.form) (same_step-true o.last_step t e) ∙ x.is_inner) in
          let n = ap (λ (z : Part). z.node) same in
          let w = x.nodes in
          let c = sum in
          let z = k.node_is in
          absurd (omega arith))

      go : (m : Meeting) → IsMeeting f o.init us o.outer.slot m → IsMeeting f ss us p.slot (gone_on above.kind row m slot)
      go (meeting.Same start) e = ([], o.are_steps ∙ ap (λ l. l ++ o.last_step ∷ []) e.0 ∙ ap (λ (n : Next). us ++ n.step ∷ []) (sym (step_from ns ks f a slot d later row r ss p h start e.1)))
      go (meeting.Inner s) e = (e.0 ++ o.last_step ∷ [], o.are_steps ∙ ap (λ l. l ++ o.last_step ∷ []) e.1 ∙ append_more us (s ∷ e.0) (o.last_step ∷ []))
      go (meeting.Outer s) e =
          let x = beyond f o.init s e.0 o.outer q o.leads (ap (below_of f) (sym e.1) ∙ k.leads) in
          let w = step_shown s x in
          record {
            both = o.init;
            part = o.outer;
            leads = o.leads;
            after = [];
            others = e.0;
            first = o.are_steps ∙ ap (λ t. o.init ++ t ∷ []) w;
            second = e.1;
            differ = ap (λ t. same_step t s) (sym w) ∙ step_differs s x;
            in_union = in_union;
          }
      go (meeting.Apart x) e = record {
        both = e.both;
        part = e.part;
        leads = e.leads;
        after = e.after ++ o.last_step ∷ [];
        others = e.others;
        first = o.are_steps ∙ ap (λ l. l ++ o.last_step ∷ []) e.first ∙ append_more e.both (x.left ∷ e.after) (o.last_step ∷ []);
        second = e.second;
        differ = e.differ;
        in_union = e.in_union;
      }

      going : IsMeeting f ss us p.slot (gone_on above.kind row m slot)
      going = go m (g o.init us o.outer q (up_within ns ks f a slot d later row r ss p h) k)

    pub goes_on : b < a → Meets f a slot b other (gone_on above.kind row m slot)
    goes_on less ss us p q h k = going less ss us p q h k

  -- both go on
  module _ (other : ℕ) (m : Meeting) (g : Meets f row.under.parent slot row.under.parent other m) where
    module _ (ss us : List Step) (p q : Part) (h : Within f a slot ss p) (k : Within f a other us q) where
      abbrev ob : Above ns ks f ss p
      ob = up ns ks f a slot d later row r ss p h

      abbrev wb : Above ns ks f us q
      wb = up ns ks f a other d later row r us q k

      ib : Within f row.under.parent slot ob.init ob.outer
      ib = up_within ns ks f a slot d later row r ss p h

      jb : Within f row.under.parent other wb.init wb.outer
      jb = up_within ns ks f a other d later row r us q k

      in_union_both : is_union_kind above.kind ≡ is_union ob.outer.form
      in_union_both = ap is_union_kind (kind_above ns ks f a slot d later row r ss p h above v) ∙ union_kind ob.outer.form

      abbrev told : Next → Next → Type 0
      told x y = IsMeeting f ss us p.slot (apart_or_same above.kind x y)

      from_same : ob.init ≡ wb.init → (b : Bool) → same_step ob.last_step wb.last_step ≡ b → IsMeeting f ss us p.slot (if b then meeting.Same p.slot else meeting.Apart (record { in_union = is_union_kind above.kind; left = ob.last_step; right = wb.last_step }))
      from_same e true z = (ob.are_steps ∙ ap (λ l. l ++ ob.last_step ∷ []) e ∙ ap (λ t. wb.init ++ t ∷ []) (same_step-true ob.last_step wb.last_step z) ∙ sym wb.are_steps, refl)
      from_same e false z = record {
        both = ob.init;
        part = ob.outer;
        leads = ob.leads;
        after = [];
        others = [];
        first = ob.are_steps;
        second = wb.are_steps ∙ ap (λ l. l ++ wb.last_step ∷ []) (sym e);
        differ = z;
        in_union = in_union_both;
      }

      go_both : (m : Meeting) → IsMeeting f ob.init wb.init ob.outer.slot m → IsMeeting f ss us p.slot (both_on above.kind row m slot other)
      go_both (meeting.Same start) e =
          let same : ob.outer ≡ wb.outer = some_inj ob.outer wb.outer (sym ob.leads ∙ ap (below_of f) e.0 ∙ wb.leads) in
          let x = step_from ns ks f a slot d later row r ss p h start e.1 in
          let y = step_from ns ks f a other d later row r us q k start (e.1 ∙ ap (λ (z : Part). z.slot) same) in
          subst (λ n. told n (stepped row start other)) (sym x) (subst (told (record { step = ob.last_step; start = p.slot })) (sym y) (from_same e.0 (same_step ob.last_step wb.last_step) refl))
      go_both (meeting.Inner s) e =
          let x = beyond f wb.init s e.0 wb.outer ob.outer wb.leads (ap (below_of f) (sym e.1) ∙ ob.leads) in
          let l = x.later in
          let n = x.nodes in
          let b = ib.node_is in
          let c = jb.node_is in
          absurd (omega arith)
      go_both (meeting.Outer s) e =
          let x = beyond f ob.init s e.0 ob.outer wb.outer ob.leads (ap (below_of f) (sym e.1) ∙ wb.leads) in
          let l = x.later in
          let n = x.nodes in
          let b = ib.node_is in
          let c = jb.node_is in
          absurd (omega arith)
      go_both (meeting.Apart x) e = record {
        both = e.both;
        part = e.part;
        leads = e.leads;
        after = e.after ++ ob.last_step ∷ [];
        others = e.others ++ wb.last_step ∷ [];
        first = ob.are_steps ∙ ap (λ l. l ++ ob.last_step ∷ []) e.first ∙ append_more e.both (x.left ∷ e.after) (ob.last_step ∷ []);
        second = wb.are_steps ∙ ap (λ l. l ++ wb.last_step ∷ []) e.second ∙ append_more e.both (x.right ∷ e.others) (wb.last_step ∷ []);
        differ = e.differ;
        in_union = e.in_union;
      }

      going_both : IsMeeting f ss us p.slot (both_on above.kind row m slot other)
      going_both = go_both m (g ob.init wb.init ob.outer wb.outer ib jb)

    pub both_go_on : Meets f a slot a other (both_on above.kind row m slot other)
    both_go_on ss us p q h k = going_both ss us p q h k

    module _ (h : IsIn ns ks f a slot) (k : IsIn ns ks f a other) where
      abbrev v3 : Within f a slot h.steps h.part
      v3 = in_within ns ks f a slot h

      abbrev v4 : Within f a other k.steps k.part
      v4 = in_within ns ks f a other k

      abbrev o3 : Above ns ks f h.steps h.part
      o3 = up ns ks f a slot d later row r h.steps h.part v3

      abbrev o4 : Above ns ks f k.steps k.part
      o4 = up ns ks f a other d later row r k.steps k.part v4

      abbrev met : Meeting → Type 0
      met m = IsMeeting f o3.init o4.init o3.outer.slot m

      have : met m
      have = g o3.init o4.init o3.outer o4.outer (up_within ns ks f a slot d later row r h.steps h.part v3) (up_within ns ks f a other d later row r k.steps k.part v4)

      pub first_may_go_on : CanGoOn row m slot
      first_may_go_on = go m have
        where
          go : (m : Meeting) → met m → CanGoOn row m slot
          go (meeting.Same start) e = can_step_from ns ks f a slot d later row r h.steps h.part v3 start e.1
          go (meeting.Inner s) e = tt
          go (meeting.Outer s) e = tt
          go (meeting.Apart x) e = tt

      pub second_may_go_on : CanGoOn row m other
      second_may_go_on = go m have
        where
          go : (m : Meeting) → met m → CanGoOn row m other
          go (meeting.Same start) e = can_step_from ns ks f a other d later row r k.steps k.part v4 start (e.1 ∙ ap (λ (z : Part). z.slot) (some_inj o3.outer o4.outer (sym o3.leads ∙ ap (below_of f) e.0 ∙ o4.leads)))
          go (meeting.Inner s) e = tt
          go (meeting.Outer s) e = tt
          go (meeting.Apart x) e = tt
