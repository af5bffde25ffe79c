-- The outermost object that decides, step by step upwards.
use Rattle.std.proofs.Common.{◌≡◌, ℕ, ◌+◌, ◌-◌, ◌≤◌, ◌<◌, ◌==◌, Bool, true, false, true≢false, not, ◌&&◌, ◌||◌, List, [], ◌∷◌, ◌++◌, map, Option, None, Some, Result, Ok, Err, refl, sym, ap, subst, ◌∙◌, arith, slice_get, inl, inr, eqb-true, if◌then◌else◌}
use Rattle.std.proofs.lemmas.Bool.{cases_Bool, eqb-false}
use Rattle.std.specs.Prelude.{option_map, option_and_then, is_some}
use Rattle.std.specs.Option.{option_or}
use Rattle.std.specs.List.{find}
use Rattle.std.proofs.lemmas.List.Folds.{find-append}
use Rattle.cx_base.specs.declared.rule.Rule.{Rule}
use Rattle.cx_base.specs.declared.rule.Rule.TheVariants as rule
use Rattle.cx_type_defs.specs.declared.ids.Step.{Step}
use Rattle.cx_type_defs.specs.declared.ids.Step.TheVariants as step
use Rattle.cx_type_defs.specs.declared.ids.ClassId.{ClassId}
use Rattle.cx_state.specs.Objects.{Path, Tree, part, below}
use Rattle.cx_state.specs.Objects as tree
use Rattle.cx_state.specs.Conditions.{is_dead, is_base, all_bases, enclosing, is_deciding, is_deciding_phase, passes}
use Rattle.cx_state.specs.Steps.{unless}
use Rattle.cx_layout.specs.declared.columns.Under.{Under}
use Rattle.cx_layout.specs.declared.columns.Node.{Node}
use Rattle.cx_layout.specs.declared.place.Place.{Place}
use Rattle.cx_layout.specs.Forms.{Form, Forms, Leaf, Row, Class, Part, part_of, below_of}
use Rattle.cx_layout.specs.Places.{Leads, form_class}
use Rattle.cx_layout.specs.Described.{Described}
use Rattle.cx_layout.proofs.Options.{some_inj}
use Rattle.cx_layout.proofs.Parts.{shown}
use Rattle.cx_layout.proofs.Fitting.{Last, Nothing, After, last}
use Rattle.cx_layout.proofs.Placing.{part_leads, one_place}
use Rattle.cx_layout.proofs.Walking.{Above, Showing, Element, ABase, AMember, parent_before}
use Rattle.cx_slots.specs.declared.slot.SlotView.{SlotView}
use Rattle.cx_slots.specs.declared.slot.SlotView.TheVariants as view
use Rattle.cx_slots.specs.Slots.{Slot, slot_seen}
use Rattle.cx_slots.specs.Slots as slot
use Rattle.cx_slots.specs.Flat.{Fits, flat}
use Rattle.cx_slot_calls.specs.Rules.{IsAt, breaks, dead_on}
use Rattle.cx_slot_calls.specs.Walks.{slot_at}
use Rattle.cx_slot_calls.proofs.Opening.{first_of, tree_last, stops_is}
use Rattle.cx_slot_calls.proofs.Walking.{part_head}
use Rattle.cx_slot_calls.proofs.Accesses.{part_at, not_false}
use Rattle.cx_slot_places.specs.declared.life.Decider.{Decider}
use Rattle.cx_slot_places.specs.Lives.{life_rule, call_of, decides, with_class, decider, dynamic_of, Tells}
use Rattle.cx_slot_places.specs.Walks.{Within}
use Rattle.cx_slot_places.specs.Standings.{IsClassPlace, base_under, derived, shows_deciding, IsDecider, Seen, DecidesAt, deciding_here, decided}
use Rattle.cx_slot_places.proofs.Walking.{within_in, whole_within, up, up_within, under_is, sum_is, up_showing}
use Rattle.cx_slot_places.proofs.Standing.{node_kind}
use Rattle.cx_slot_places.proofs.Living.{at_part, at_within, life_if}

-- what encloses the end of steps

all_bases_last : (ss : List Step) (s : Step) → all_bases (ss ++ s ∷ []) ≡ (all_bases ss && is_base s)
all_bases_last [] s = and_true (is_base s)
  where
    and_true : (b : Bool) → (b && true) ≡ b
    and_true true = refl
    and_true false = refl
all_bases_last (t ∷ ss) s = ap (λ b. is_base t && b) (all_bases_last ss s) ∙ assoc (is_base t) (all_bases ss) (is_base s)
  where
    assoc : (a b c : Bool) → (a && (b && c)) ≡ ((a && b) && c)
    assoc true b c = refl
    assoc false b c = refl

abbrev above_bases : Bool → List Step → List (List Step)
above_bases b ss = if b then enclosing ss else []

map_more : {A B : Type 0} (f : A → B) (xs ys : List A) → map f (xs ++ ys) ≡ map f xs ++ map f ys
map_more f [] ys = refl
map_more f (x ∷ xs) ys = ap (λ l. f x ∷ l) (map_more f xs ys)

append_more : {A : Type 0} (xs ys zs : List A) → xs ++ (ys ++ zs) ≡ (xs ++ ys) ++ zs
append_more [] ys zs = refl
append_more (x ∷ xs) ys zs = ap (λ l. x ∷ l) (append_more xs ys zs)

enclosing_last : (ss : List Step) (s : Step) → enclosing (ss ++ s ∷ []) ≡ above_bases (is_base s) ss ++ (ss ++ s ∷ []) ∷ []
enclosing_last [] (step.Base i) = refl
enclosing_last [] (step.Field i) = refl
enclosing_last [] (step.Elem i) = refl
enclosing_last (t ∷ ss) s =
    ap (λ b. (if is_base t && b then [] ∷ [] else []) ++ map (λ us. t ∷ us) (enclosing (ss ++ s ∷ []))) (all_bases_last ss s)
    ∙ ap (λ l. (if is_base t && (all_bases ss && is_base s) then [] ∷ [] else []) ++ map (λ us. t ∷ us) l) (enclosing_last ss s)
    ∙ go (is_base s)
  where
    both_true : (b c : Bool) → (b && (c && true)) ≡ (b && c)
    both_true true true = refl
    both_true true false = refl
    both_true false c = refl

    both_false : (b c : Bool) → (b && (c && false)) ≡ false
    both_false true true = refl
    both_false true false = refl
    both_false false c = refl

    go : (b : Bool) → (if is_base t && (all_bases ss && b) then [] ∷ [] else []) ++ map (λ us. t ∷ us) (above_bases b ss ++ (ss ++ s ∷ []) ∷ []) ≡ above_bases b (t ∷ ss) ++ (t ∷ (ss ++ s ∷ [])) ∷ []
    go true =
        ap (λ c. (if c then [] ∷ [] else []) ++ map (λ us. t ∷ us) (enclosing ss ++ (ss ++ s ∷ []) ∷ [])) (both_true (is_base t) (all_bases ss))
        ∙ ap (λ l. (if is_base t && all_bases ss then [] ∷ [] else []) ++ l) (map_more (λ us. t ∷ us) (enclosing ss) ((ss ++ s ∷ []) ∷ []))
        ∙ append_more (if is_base t && all_bases ss then [] ∷ [] else []) (map (λ us. t ∷ us) (enclosing ss)) ((t ∷ (ss ++ s ∷ [])) ∷ [])
    go false = ap (λ c. (if c then [] ∷ [] else []) ++ map (λ us. t ∷ us) ((ss ++ s ∷ []) ∷ [])) (both_false (is_base t) (all_bases ss))

abbrev itself : (List Step → Bool) → List Step → Option (List Step)
itself test ss = if test ss then Some ss else None

-- the outermost of those above through a base, or else itself
find_last : (test : List Step → Bool) (ss : List Step) (s : Step) → find test (enclosing (ss ++ s ∷ [])) ≡ option_or (if is_base s then find test (enclosing ss) else None) (itself test (ss ++ s ∷ []))
find_last test ss s =
    ap (find test) (enclosing_last ss s) ∙ find-append test (above_bases (is_base s) ss) ((ss ++ s ∷ []) ∷ []) ∙ ap (λ o. option_or o (itself test (ss ++ s ∷ []))) (go (is_base s))
  where
    go : (b : Bool) → find test (above_bases b ss) ≡ (if b then find test (enclosing ss) else None)
    go true = refl
    go false = refl

-- where all decide one is found
pub found_all : (test : List Step → Bool) (ss : List Step) → test ss ≡ true → (us : List Step) × (find test (enclosing ss) ≡ Some us)
found_all test ss e = go ss (last ss) e
  where
    or_some : (o : Option (List Step)) (us : List Step) → (vs : List Step) × (option_or o (Some us) ≡ Some vs)
    or_some None us = (us, refl)
    or_some (Some vs) us = (vs, refl)

    go : (ss : List Step) → Last ss → test ss ≡ true → (us : List Step) × (find test (enclosing ss) ≡ Some us)
    go [] Nothing e = ([], ap (λ b. if b then Some [] else None) e)
    go (_) (After us u) e =
        let o = if is_base u then find test (enclosing us) else None in
        let a = or_some o (us ++ u ∷ []) in
        (a.0, find_last test us u ∙ ap (λ b. option_or o (if b then Some (us ++ u ∷ []) else None)) e ∙ a.1)

-- what a class's first slot shows

abbrev deciding_seen : Slot → Bool
deciding_seen (slot.Header p) = is_deciding_phase p
deciding_seen v = false

deciding_same : (path : Place → Path) (v : SlotView) → shows_deciding v ≡ deciding_seen (slot_seen path v)
deciding_same path (view.Value v) = refl
deciding_same path (view.Phase p) = refl
deciding_same path (view.Active m) = refl

deciding_there : (c : ClassId) (u : Bool) (bs ms : Forms) (y : Tree) (more : List Slot) → Fits (Class c u bs ms) y → deciding_seen (first_of (flat (Class c u bs ms) y ++ more) 0) ≡ is_deciding y
deciding_there c false bs ms (tree.Class p xs ys) more h = refl
deciding_there c true bs ms tree.Union more h = refl
deciding_there c true bs ms (tree.Active m x) more h = refl
deciding_there c u bs ms y more h = absurd h

some_of : {A : Type 0} (o : Option A) → is_some o ≡ true → (a : A) × (o ≡ Some a)
some_of None e = absurd (true≢false (sym e))
some_of (Some a) e = (a, refl)

-- the class at a place

module _ (f : Form) (at : Place) (here : at.past ≡ false) where
  pub class_leads : (ss : List Step) (u : Form) → IsAt f ss at u → Leads f ss at
  class_leads ss u h = part_leads f ss at here (at_part f ss at u h)

  module _ (ns : List Node) (ks : List ℕ) (d : Described ns ks f) (k : IsClassPlace f at) (row : Node) (r : slice_get ns at.node ≡ Some row) (opaque : Bool) (l : List SlotView) where
    abbrev u : Form
    u = Class k.class k.in_union k.bases k.members

    abbrev v : SlotView
    v = slot_at l at.slot

    module _ (x : Tree) (ss : List Step) (leads : Leads f ss at) (seen : Seen opaque l f x ss) where
      is_at : IsAt f ss at u
      is_at = ap (below_of f) (one_place f ss k.steps at d.full here leads (class_leads k.steps u k.is_at)) ∙ k.is_at

      abbrev test : List Step → Bool
      test = decides opaque x

      shows : (b : Bool) → opaque ≡ b → (b || shows_deciding v) ≡ (b || passes is_deciding (below x ss))
      shows true e = refl
      shows false e =
          let s = seen e in
          let y = some_of (below x ss) s.2 in
          let h = part_head s.0 l f x s.1 ss (part_at at u) y.0 is_at y.1 in
          deciding_same s.0 v ∙ ap deciding_seen h.1 ∙ deciding_there k.class k.in_union k.bases k.members y.0 h.0.back h.0.there ∙ sym (ap (passes is_deciding) y.1)

      here_is : IsDecider f at.block (itself test ss) (deciding_here row.kind opaque v at)
      here_is =
          subst (λ n. IsDecider f at.block (itself test ss) (deciding_here n opaque v at)) (sym (node_kind ns ks f d at.node at.slot ss (part_at at u) (at_within ns ks f d ss at u is_at) row r))
          (subst (λ b. IsDecider f at.block (itself test ss) (if b then Some (record { class = k.class; place = at }) else None)) (sym (shows opaque refl)) (go (test ss)))
        where
          go : (b : Bool) → IsDecider f at.block (if b then Some ss else None) (if b then Some (record { class = k.class; place = at }) else None)
          go true = (ap (option_and_then (λ (p : Part). form_class p.form)) is_at, leads, here, refl)
          go false = tt

      -- no base of another
      alone : derived row at ≡ None → find test (enclosing ss) ≡ itself test ss
      alone n = elim (cases_Bool (at.node == 0)) as (λ _. find test (enclosing ss) ≡ itself test ss) [
        | inl e ↦ first (whole_within f at.node at.slot (eqb-true at.node 0 e) ss (part_at at u) (at_within ns ks f d ss at u is_at)).0
        | inr e ↦ (let m = eqb-false at.node 0 e in let later : 1 ≤ at.node = omega arith in inner later e (up_showing ns ks f at.node at.slot d later row r ss (part_at at u) (at_within ns ks f d ss at u is_at)))
      ]
        where
          first : ss ≡ [] → find test (enclosing ss) ≡ itself test ss
          first e = ap (λ us. find test (enclosing us)) e ∙ sym (ap (itself test) e)

          no_base : (later : 1 ≤ at.node) → is_base (up ns ks f at.node at.slot d later row r ss (part_at at u) (at_within ns ks f d ss at u is_at)).last_step ≡ false → find test (enclosing ss) ≡ itself test ss
          no_base later e =
              let o = up ns ks f at.node at.slot d later row r ss (part_at at u) (at_within ns ks f d ss at u is_at) in
              ap (λ us. find test (enclosing us)) o.are_steps ∙ find_last test o.init o.last_step
              ∙ ap (λ b. option_or (if b then find test (enclosing o.init) else None) (itself test (o.init ++ o.last_step ∷ []))) e
              ∙ sym (ap (itself test) o.are_steps)

          inner : (later : 1 ≤ at.node) → (at.node == 0) ≡ false
              → Showing (up ns ks f at.node at.slot d later row r ss (part_at at u) (at_within ns ks f d ss at u is_at)).outer.form (up ns ks f at.node at.slot d later row r ss (part_at at u) (at_within ns ks f d ss at u is_at)).last_step
              (up ns ks f at.node at.slot d later row r ss (part_at at u) (at_within ns ks f d ss at u is_at)).inner (up ns ks f at.node at.slot d later row r ss (part_at at u) (at_within ns ks f d ss at u is_at)).outer.node
              → find test (enclosing ss) ≡ itself test ss
          inner later e (Element m g i fe se so sh) = no_base later (ap is_base se)
          inner later e (AMember i se sh) = no_base later (ap is_base se)
          inner later e (ABase i se sh) =
              let w : derived row at ≡ base_under (step.Base i) row at = ap (λ b. if b then None else base_under row.under.step row at) e ∙ ap (λ s. base_under s row at) (ap (λ (q : Under). q.step) (under_is ns ks f at.node at.slot d later row r ss (part_at at u) (at_within ns ks f d ss at u is_at) ∙ sh)) in
              let z : None ≡ base_under (step.Base i) row at = sym n ∙ w in
              absurd (cc)

    pub decides_alone : derived row at ≡ None → DecidesAt f opaque l at (deciding_here row.kind opaque v at)
    decides_alone n x ss leads seen = subst (λ o. IsDecider f at.block o (deciding_here row.kind opaque v at)) (sym (alone x ss leads seen n)) (here_is x ss leads seen)

    pub under_before : 1 ≤ at.node → row.under.offset ≤ at.slot
    under_before later = go (up_showing ns ks f at.node at.slot d later row r k.steps (part_at at u) w0)
      where
        w0 : Within f at.node at.slot k.steps (part_at at u)
        w0 = at_within ns ks f d k.steps at u k.is_at

        sum : (up ns ks f at.node at.slot d later row r k.steps (part_at at u) w0).outer.slot + (up ns ks f at.node at.slot d later row r k.steps (part_at at u) w0).inner.slot ≡ at.slot
        sum = sum_is ns ks f at.node at.slot d later row r k.steps (part_at at u) w0

        shows : row.under ≡ shown (up ns ks f at.node at.slot d later row r k.steps (part_at at u) w0).outer.form (up ns ks f at.node at.slot d later row r k.steps (part_at at u) w0).last_step
            (up ns ks f at.node at.slot d later row r k.steps (part_at at u) w0).inner (up ns ks f at.node at.slot d later row r k.steps (part_at at u) w0).outer.node
        shows = under_is ns ks f at.node at.slot d later row r k.steps (part_at at u) w0

        go : Showing (up ns ks f at.node at.slot d later row r k.steps (part_at at u) w0).outer.form (up ns ks f at.node at.slot d later row r k.steps (part_at at u) w0).last_step
            (up ns ks f at.node at.slot d later row r k.steps (part_at at u) w0).inner (up ns ks f at.node at.slot d later row r k.steps (part_at at u) w0).outer.node → row.under.offset ≤ at.slot
        go (Element e g i fe se so sh) = (let z : row.under.offset ≡ 0 = ap (λ (q : Under). q.offset) (shows ∙ sh) in omega arith)
        go (ABase i se sh) = (let z = ap (λ (q : Under). q.offset) (shows ∙ sh) in let a = sum in omega arith)
        go (AMember i se sh) = (let z = ap (λ (q : Under). q.offset) (shows ∙ sh) in let a = sum in omega arith)

    -- a base of another

    pub record IsDerived (to : Place) : Type 0 where
      pub later : 1 ≤ at.node
      pub index : ℕ
      pub is_base_step : row.under.step ≡ step.Base index
      pub place : record { block = at.block; slot = at.slot - row.under.offset; node = row.under.parent; past = false } ≡ to

    pub derived_is : (to : Place) → derived row at ≡ Some to → IsDerived to
    derived_is to e = go (at.node == 0) refl e
      where
        by : (s : Step) → row.under.step ≡ s → 1 ≤ at.node → base_under s row at ≡ Some to → IsDerived to
        by (step.Base i) w m z = record { later = m; index = i; is_base_step = w; place = some_inj (record { block = at.block; slot = at.slot - row.under.offset; node = row.under.parent; past = false }) to z }
        by (step.Field i) w m z = absurd (cc)
        by (step.Elem i) w m z = absurd (cc)

        go : (b : Bool) → (at.node == 0) ≡ b → (if b then None else base_under row.under.step row at) ≡ Some to → IsDerived to
        go true w z = absurd (cc)
        go false w z = (let m = eqb-false at.node 0 w in by row.under.step refl (omega arith) z)

    module _ (to : Place) (n : IsDerived to) where
      abbrev risen : Place
      risen = record { block = at.block; slot = at.slot - row.under.offset; node = row.under.parent; past = false }

      module _ (ss : List Step) (is : IsAt f ss at u) where
        abbrev w : Within f at.node at.slot ss (part_at at u)
        w = at_within ns ks f d ss at u is

        abbrev o : Above ns ks f ss (part_at at u)
        o = up ns ks f at.node at.slot d n.later row r ss (part_at at u) w

        abbrev m : Within f row.under.parent at.slot o.init o.outer
        m = up_within ns ks f at.node at.slot d n.later row r ss (part_at at u) w

        pub record Rises : Type 0 where
          pub offset : row.under.offset ≡ o.inner.slot
          pub base : o.last_step ≡ step.Base n.index

        rises : Rises
        rises = go (up_showing ns ks f at.node at.slot d n.later row r ss (part_at at u) w)
          where
            shows : row.under ≡ shown o.outer.form o.last_step o.inner o.outer.node
            shows = under_is ns ks f at.node at.slot d n.later row r ss (part_at at u) w

            base_inj : (i j : ℕ) → step.Base i ≡ step.Base j → i ≡ j
            base_inj i j e = cc

            go : Showing o.outer.form o.last_step o.inner o.outer.node → Rises
            go (ABase i se sh) = record {
              offset = ap (λ (q : Under). q.offset) (shows ∙ sh);
              base = se ∙ ap step.Base (base_inj i n.index (sym (ap (λ (q : Under). q.step) (shows ∙ sh)) ∙ n.is_base_step));
            }
            go (Element e g i fe se so sh) = (let z : step.Elem 0 ≡ step.Base n.index = sym (ap (λ (q : Under). q.step) (shows ∙ sh)) ∙ n.is_base_step in absurd (cc))
            go (AMember i se sh) = (let z : step.Field i ≡ step.Base n.index = sym (ap (λ (q : Under). q.step) (shows ∙ sh)) ∙ n.is_base_step in absurd (cc))

        outer_slot : o.outer.slot ≡ at.slot - row.under.offset
        outer_slot = let a = sum_is ns ks f at.node at.slot d n.later row r ss (part_at at u) w in let b = rises.offset in omega arith

        pub offset_before : row.under.offset ≤ at.slot
        offset_before = let a = sum_is ns ks f at.node at.slot d n.later row r ss (part_at at u) w in let b = rises.offset in omega arith

        abbrev ClassForm : Form → Type 0
        ClassForm g = (c : ClassId) × (v : Bool) × (bs : Forms) × (ms : Forms) × (g ≡ Class c v bs ms)

        base_class : (g : Form) (i : ℕ) (q : Part) → part_of g (step.Base i) ≡ Some q → ClassForm g
        base_class (Class c v bs ms) i q e = (c, v, bs, ms, refl)
        base_class Leaf i q e = absurd (cc)
        base_class (Row m g) i q e = absurd (cc)

        outer_class : ClassForm o.outer.form
        outer_class = base_class o.outer.form n.index o.inner (ap (part_of o.outer.form) (sym rises.base) ∙ o.is_inner)

        outer_is : below_of f o.init ≡ Some (record { node = row.under.parent; slot = at.slot - row.under.offset; form = o.outer.form })
        outer_is = o.leads ∙ ap (λ k. Some (record { node = k; slot = o.outer.slot; form = o.outer.form })) m.node_is ∙ ap (λ k. Some (record { node = row.under.parent; slot = k; form = o.outer.form })) outer_slot

        outer_place : IsClassPlace f risen
        outer_place = record {
          steps = o.init;
          class = outer_class.0;
          in_union = outer_class.1;
          bases = outer_class.2;
          members = outer_class.3;
          is_at = outer_is ∙ ap (λ g. Some (record { node = row.under.parent; slot = at.slot - row.under.offset; form = g })) outer_class.4;
        }

        outer_leads : Leads f o.init risen
        outer_leads = part_leads f o.init risen refl (record { part = o.outer; leads = o.leads; node = m.node_is; slot = outer_slot })

        outer_seen : (x : Tree) → Seen opaque l f x ss → Seen opaque l f x o.init
        outer_seen x s e =
            let h = s e in
            (h.0, h.1, go (below x o.init) (sym (ap is_some (tree_last x o.init o.last_step)) ∙ sym (ap (λ us. is_some (below x us)) o.are_steps) ∙ h.2))
          where
            go : (z : Option Tree) → is_some (option_and_then (λ y. part y o.last_step) z) ≡ true → is_some z ≡ true
            go None e = e
            go (Some y) e = refl

        found_is : (test : List Step → Bool) → find test (enclosing ss) ≡ option_or (find test (enclosing o.init)) (itself test ss)
        found_is test =
            ap (λ us. find test (enclosing us)) o.are_steps ∙ find_last test o.init o.last_step
            ∙ ap (λ s. option_or (if is_base s then find test (enclosing o.init) else None) (itself test (o.init ++ o.last_step ∷ []))) rises.base
            ∙ ap (λ us. option_or (find test (enclosing o.init)) (itself test us)) (sym o.are_steps)

      pub outer_here : to.past ≡ false
      outer_here = ap (λ (p : Place). p.past) (sym n.place)

      pub outer_before : to.node < at.node
      outer_before =
          let b = parent_before ns ks f at.node at.slot (within_in ns ks f at.node at.slot d k.steps (part_at at u) (w k.steps k.is_at)) n.later row r in
          let e = ap (λ (p : Place). p.node) n.place in
          omega arith

      pub outer_is_class : IsClassPlace f to
      outer_is_class = subst (IsClassPlace f) n.place (outer_place k.steps k.is_at)

      pub may_rise : row.under.offset ≤ at.slot
      may_rise = offset_before k.steps k.is_at

      module _ (found : Option Decider) (g : DecidesAt f opaque l to found) (x : Tree) (ss : List Step) (leads : Leads f ss at) (seen : Seen opaque l f x ss) where
        abbrev is : IsAt f ss at u
        is = is_at x ss leads seen

        abbrev test2 : List Step → Bool
        test2 = decides opaque x

        above_decides : IsDecider f at.block (find test2 (enclosing (o ss is).init)) found
        above_decides =
            let h : DecidesAt f opaque l risen found = subst (λ (p : Place). DecidesAt f opaque l p found) (sym n.place) g in
            h x (o ss is).init (outer_leads ss is) (outer_seen ss is x seen)

        pub decides_above : (e : Decider) → found ≡ Some e → IsDecider f at.block (find test2 (enclosing ss)) (Some e)
        decides_above e z =
            subst (λ q. IsDecider f at.block q (Some e)) (sym (found_is ss is test2)) (go (find test2 (enclosing (o ss is).init)) (subst (IsDecider f at.block (find test2 (enclosing (o ss is).init))) z above_decides))
          where
            go : (q : Option (List Step)) → IsDecider f at.block q (Some e) → IsDecider f at.block (option_or q (itself test2 ss)) (Some e)
            go None h = absurd h
            go (Some us) h = h

        pub decides_here : found ≡ None → IsDecider f at.block (find test2 (enclosing ss)) (deciding_here row.kind opaque v at)
        decides_here z =
            subst (λ q. IsDecider f at.block q (deciding_here row.kind opaque v at)) (sym (found_is ss is test2)) (go (find test2 (enclosing (o ss is).init)) (subst (IsDecider f at.block (find test2 (enclosing (o ss is).init))) z above_decides))
          where
            go : (q : Option (List Step)) → IsDecider f at.block q None → IsDecider f at.block (option_or q (itself test2 ss)) (deciding_here row.kind opaque v at)
            go None h = here_is x ss leads seen
            go (Some us) h = absurd h

-- the answer

told_some : (f : Form) (b : ℕ) (q : Option (List Step)) (d : Option Decider) → IsDecider f b q d → (us : List Step) → q ≡ Some us → Tells f b (decided d) (Ok (option_and_then (with_class f) q))
told_some f b None d h us e = absurd (cc)
told_some f b (Some vs) None h us e = absurd h
told_some f b (Some vs) (Some d) h us e = subst (λ o. Tells f b (decided (Some d)) (Ok (option_map (λ c. (c, vs)) o))) (sym h.0) (refl, h.1, h.2, h.3)

pub tells_opaque : (f : Form) (b : ℕ) (x : Tree) (ss : List Step) (d : Option Decider) → IsDecider f b (find (decides true x) (enclosing ss)) d → Tells f b (decided d) (dynamic_of f true x ss)
tells_opaque f b x ss d h = let a = found_all (decides true x) ss refl in told_some f b (find (decides true x) (enclosing ss)) d h a.0 a.1

no_rule_more : (a d p n : Bool) → life_if a (d || p) ≡ None → life_if a (d || (p || n)) ≡ life_if false n
no_rule_more true d p n e = absurd (cc)
no_rule_more false true p n e = absurd (cc)
no_rule_more false false true n e = absurd (cc)
no_rule_more false false false n e = refl

rule_more : (a d p n : Bool) (r : Rule) → life_if a (d || p) ≡ Some r → life_if a (d || (p || n)) ≡ Some r
rule_more true d p n r e = e
rule_more false true p n r e = e
rule_more false false true n r e = e
rule_more false false false n r e = absurd (cc)

call_rule : (o : Option Rule) (r : Rule) → ◌≡◌ {A = Result (Unit {0}) Rule} (Err r) (unless o tt) → o ≡ Some r
call_rule None r e = absurd (cc)
call_rule (Some s) r e = ap Some (err_inj s r (sym e))
  where
    err_inj : (a b : Rule) → ◌≡◌ {A = Result (Unit {0}) Rule} (Err a) (Err b) → a ≡ b
    err_inj a b e = cc

call_none : (o : Option Rule) → ◌≡◌ {A = Result (Unit {0}) Rule} (Ok tt) (unless o tt) → o ≡ None
call_none None e = refl
call_none (Some r) e = absurd (cc)

none_first : (a b : Bool) → life_if a b ≡ None → a ≡ false
none_first true b e = absurd (cc)
none_first false b e = refl

-- what may be called is there
pub reached : (f : Form) (x : Tree) (ss : List Step) (p : Part) → Fits f x → below_of f ss ≡ Some p → ◌≡◌ {A = Result (Unit {0}) Rule} (Ok tt) (call_of x ss) → is_some (below x ss) ≡ true
reached f x ss p h leads e =
    not_false (is_some (below x ss)) (sym (stops_is f x ss p h leads) ∙ none_first (breaks x ss rule.InactiveMember) (breaks x ss rule.OutOfLifetime) (call_none (life_rule x ss) e))

module _ (f : Form) (b : ℕ) (x : Tree) (ss : List Step) where
  abbrev n : Bool
  n = not (is_some (decider f false x ss))

  pub tells_rule : (r : Rule) → Err r ≡ call_of x ss → Tells f b (Err r) (dynamic_of f false x ss)
  tells_rule r e =
      subst (λ o. Tells f b (Err r) (unless o (decider f false x ss)))
      (sym (rule_more (breaks x ss rule.InactiveMember) (dead_on x ss) (passes is_dead (below x ss)) n r (call_rule (life_rule x ss) r e))) refl

  pub tells : (d : Option Decider) → IsDecider f b (find (decides false x) (enclosing ss)) d → Ok tt ≡ call_of x ss → Tells f b (decided d) (dynamic_of f false x ss)
  tells d h e =
      subst (λ o. Tells f b (decided d) (unless o (decider f false x ss)))
      (sym (no_rule_more (breaks x ss rule.InactiveMember) (dead_on x ss) (passes is_dead (below x ss)) n (call_none (life_rule x ss) e)))
      (go (find (decides false x) (enclosing ss)) d h)
    where
      go : (q : Option (List Step)) (d : Option Decider) → IsDecider f b q d → Tells f b (decided d) (unless (life_if false (not (is_some {T = ClassId × List Step} (option_and_then (with_class f) q)))) (option_and_then (with_class f) q))
      go None None h = refl
      go (Some us) (Some d) h = subst (λ o. Tells f b (decided (Some d)) (unless (life_if false (not (is_some {T = ClassId × List Step} (option_map (λ c. (c, us)) o)))) (option_map (λ c. (c, us)) o))) (sym h.0) (refl, h.1, h.2, h.3)
      go None (Some d) h = absurd h
      go (Some us) None h = absurd h
