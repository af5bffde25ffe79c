-- What encloses a part, step by step upwards.
use Rattle.std.proofs.Common.{◌≡◌, ℕ, ◌+◌, ◌-◌, ◌≤◌, ◌<◌, Bool, true, false, ◌&&◌, List, [], ◌∷◌, ◌++◌, map, reverse, Option, None, Some, refl, sym, ap, ◌∙◌, arith, slice_get, if◌then◌else◌}
use Rattle.std.specs.List.{find}
use Rattle.std.specs.Prelude.{option_map, option_and_then}
use Rattle.std.proofs.lemmas.List.{reverse-append}
use Rattle.cx_type_defs.specs.declared.ids.Step.{Step}
use Rattle.cx_type_defs.specs.declared.ids.Step.TheVariants as step
use Rattle.cx_type_defs.specs.declared.ids.ClassId.{ClassId}
use Rattle.cx_state.specs.Conditions.{is_base, all_bases, enclosing}
use Rattle.cx_layout.specs.declared.columns.Under.{Under}
use Rattle.cx_layout.specs.declared.columns.Node.{Node}
use Rattle.cx_layout.specs.declared.place.Place.{Place}
use Rattle.cx_layout.specs.Forms.{Form, Leaf, Row, Class, cells, Part, whole, below_of}
use Rattle.cx_layout.specs.Laid.{kind_of}
use Rattle.cx_layout.specs.Places.{placed, Leads, IsPlace, or_else, place_at, place_of, form_class, class_at, is_class, nearest}
use Rattle.cx_layout.specs.Described.{Described}
use Rattle.cx_layout.specs.Walks.{IsIn, kind_is, Encloses}
use Rattle.cx_layout.proofs.Options.{some_inj}
use Rattle.cx_layout.proofs.Fitting.{Last, Nothing, After, last}
use Rattle.cx_layout.proofs.WaysBack.{full_pos, full_below}
use Rattle.cx_layout.proofs.Parts.{shown}
use Rattle.cx_layout.proofs.Placing.{AtPart, at_part, part_leads}
use Rattle.cx_layout.proofs.Walking.{Above, first_node, Showing, Element, ABase, AMember, showing, in_above, in_node, shown_is, parent_node, parent_before}

all_bases_last : (ss : List Step) (s : Step) → all_bases (ss ++ s ∷ []) ≡ (all_bases ss && is_base s)
all_bases_last [] s = and_true (is_base s)
  where
    and_true : (b : Bool) → (b && true) ≡ b
    and_true true = refl
    and_true false = refl
all_bases_last (t ∷ ss) s = ap (λ b. is_base t && b) (all_bases_last ss s) ∙ assoc (is_base t) (all_bases ss) (is_base s)
  where
    assoc : (a b c : Bool) → (a && (b && c)) ≡ ((a && b) && c)
    assoc true b c = refl
    assoc false b c = refl

abbrev above_bases : Bool → List Step → List (List Step)
above_bases b ss = if b then enclosing ss else []

map_more : {A B : Type 0} (f : A → B) (xs ys : List A) → map f (xs ++ ys) ≡ map f xs ++ map f ys
map_more f [] ys = refl
map_more f (x ∷ xs) ys = ap (λ l. f x ∷ l) (map_more f xs ys)

append_more : {A : Type 0} (xs ys zs : List A) → xs ++ (ys ++ zs) ≡ (xs ++ ys) ++ zs
append_more [] ys zs = refl
append_more (x ∷ xs) ys zs = ap (λ l. x ∷ l) (append_more xs ys zs)

enclosing_last : (ss : List Step) (s : Step) → enclosing (ss ++ s ∷ []) ≡ above_bases (is_base s) ss ++ (ss ++ s ∷ []) ∷ []
enclosing_last [] (step.Base i) = refl
enclosing_last [] (step.Field i) = refl
enclosing_last [] (step.Elem i) = refl
enclosing_last (t ∷ ss) s =
    ap (λ b. (if is_base t && b then [] ∷ [] else []) ++ map (λ us. t ∷ us) (enclosing (ss ++ s ∷ []))) (all_bases_last ss s)
    ∙ ap (λ l. (if is_base t && (all_bases ss && is_base s) then [] ∷ [] else []) ++ map (λ us. t ∷ us) l) (enclosing_last ss s)
    ∙ go (is_base s)
  where
    front : (b : Bool) → Bool → List (List Step)
    front b c = if is_base t && (all_bases ss && b) then [] ∷ [] else []

    both_true : (b c : Bool) → (b && (c && true)) ≡ (b && c)
    both_true true true = refl
    both_true true false = refl
    both_true false c = refl

    both_false : (b c : Bool) → (b && (c && false)) ≡ false
    both_false true true = refl
    both_false true false = refl
    both_false false c = refl

    go : (b : Bool) → (if is_base t && (all_bases ss && b) then [] ∷ [] else []) ++ map (λ us. t ∷ us) (above_bases b ss ++ (ss ++ s ∷ []) ∷ []) ≡ above_bases b (t ∷ ss) ++ (t ∷ (ss ++ s ∷ [])) ∷ []
    go true =
        ap (λ c. (if c then [] ∷ [] else []) ++ map (λ us. t ∷ us) (enclosing ss ++ (ss ++ s ∷ []) ∷ [])) (both_true (is_base t) (all_bases ss))
        ∙ ap (λ l. (if is_base t && all_bases ss then [] ∷ [] else []) ++ l) (map_more (λ us. t ∷ us) (enclosing ss) ((ss ++ s ∷ []) ∷ []))
        ∙ append_more (if is_base t && all_bases ss then [] ∷ [] else []) (map (λ us. t ∷ us) (enclosing ss)) ((t ∷ (ss ++ s ∷ [])) ∷ [])
    go false = ap (λ c. (if c then [] ∷ [] else []) ++ map (λ us. t ∷ us) ((ss ++ s ∷ []) ∷ [])) (both_false (is_base t) (all_bases ss))

abbrev is_of : Form → ClassId → List Step → Bool
is_of f c us = is_class c (class_at f us)

-- the nearest is the part itself, or the nearest to what it is a base of
nearest_last : (f : Form) (c : ClassId) (ss : List Step) (s : Step) → nearest f c (ss ++ s ∷ []) ≡ (if is_of f c (ss ++ s ∷ []) then Some (ss ++ s ∷ []) else (if is_base s then nearest f c ss else None))
nearest_last f c ss s =
    ap (λ l. find (is_of f c) (reverse l)) (enclosing_last ss s)
    ∙ ap (find (is_of f c)) (reverse-append (above_bases (is_base s) ss) ((ss ++ s ∷ []) ∷ []))
    ∙ ap (λ o. if is_of f c (ss ++ s ∷ []) then Some (ss ++ s ∷ []) else o) (go (is_base s))
  where
    go : (b : Bool) → find (is_of f c) (reverse (above_bases b ss)) ≡ (if b then nearest f c ss else None)
    go true = refl
    go false = refl

nearest_here : (f : Form) (c : ClassId) (ss : List Step) → is_of f c ss ≡ true → nearest f c ss ≡ Some ss
nearest_here f c ss h = go ss (last ss) h
  where
    go : (ss : List Step) → Last ss → is_of f c ss ≡ true → nearest f c ss ≡ Some ss
    go [] Nothing h = ap (λ b. if b then Some [] else None) h
    go (_) (After us u) h = nearest_last f c us u ∙ ap (λ b. if b then Some (us ++ u ∷ []) else (if is_base u then nearest f c us else None)) h

nearest_up : (f : Form) (c : ClassId) (ss : List Step) (s : Step) → is_of f c (ss ++ s ∷ []) ≡ false → nearest f c (ss ++ s ∷ []) ≡ (if is_base s then nearest f c ss else None)
nearest_up f c ss s h = nearest_last f c ss s ∙ ap (λ b. if b then Some (ss ++ s ∷ []) else (if is_base s then nearest f c ss else None)) h

kind_class : (c : ClassId) (g : Form) → kind_is c (kind_of g) ≡ is_class c (form_class g)
kind_class c Leaf = refl
kind_class c (Row n g) = refl
kind_class c (Class d u bs ms) = refl

-- an unmarked place is that of its steps
pub place_of_here : (f : Form) (ss : List Step) (at : Place) → at.past ≡ false → Leads f ss at → place_of f at.block ss ≡ Some at
place_of_here f ss at z h =
    let a : option_map (placed at.block false) (place_at f false ss) ≡ Some at = ap (λ b. option_map (placed at.block b) (place_at f b ss)) (sym z) ∙ h in
    ap (λ o. or_else o (option_map (placed at.block true) (place_at f true ss))) a

pub part_before : (ns : List Node) (ks : List ℕ) (f : Form) (ss : List Step) (at : Place) (p : AtPart f ss at) → Described ns ks f → 1 ≤ at.node → at.slot < p.part.slot + cells p.part.form
part_before ns ks f ss at p d l = go ss p.leads
  where
    go : (ss : List Step) → below_of f ss ≡ Some p.part → at.slot < p.part.slot + cells p.part.form
    go [] e =
        let w : 0 ≡ p.part.node = ap (λ (q : Part). q.node) (some_inj (whole f) p.part e) in
        let n = p.node in
        absurd (omega arith)
    go (s ∷ us) e =
        let c = full_pos p.part.form (full_below f s us p.part d.full e) in
        let x = p.slot in
        omega arith

pub part_from : (f : Form) (ss : List Step) (at : Place) (p : AtPart f ss at) → p.part.slot ≤ at.slot
part_from f ss at p = let x = p.slot in omega arith

abbrev pub part_in : (ns : List Node) (ks : List ℕ) (f : Form) (ss : List Step) (at : Place) → Described ns ks f → AtPart f ss at → IsIn ns ks f at.node at.slot
part_in ns ks f ss at d p = record { described = d; steps = ss; part = p.part; leads = p.leads; node_is = p.node; from = part_from f ss at p; before = part_before ns ks f ss at p d }

module _ (ns : List Node) (ks : List ℕ) (f : Form) (at : Place) (c : ClassId) (d : Described ns ks f) (here : at.past ≡ false) (h : IsPlace f at) where
  pub place_in : IsIn ns ks f at.node at.slot
  place_in = part_in ns ks f h.0 at d (at_part f h.0 at here h.1)

  module _ (row : Node) (r : slice_get ns at.node ≡ Some row) where
    class_is : (ss : List Step) → Leads f ss at → is_of f c ss ≡ kind_is c row.kind
    class_is ss l =
        let p = at_part f ss at here l in
        let i = in_node ns ks f at.node at.slot (part_in ns ks f ss at d p) in
        ap (λ o. is_class c (option_and_then (λ (q : Part). form_class q.form) o)) p.leads ∙ sym (kind_class c p.part.form) ∙ ap (kind_is c) (sym i.kind) ∙ ap (λ (x : Node). kind_is c x.kind) (some_inj i.row row (sym i.is_row ∙ r))

    pub here_encloses : kind_is c row.kind ≡ true → Encloses f at c (Some at)
    here_encloses k ss l = sym (ap (option_and_then (place_of f at.block)) (nearest_here f c ss (class_is ss l ∙ k)) ∙ place_of_here f ss at here l)

    pub whole_encloses : kind_is c row.kind ≡ false → at.node ≡ 0 → Encloses f at c None
    whole_encloses k z ss l =
        let p = at_part f ss at here l in
        let w = first_node f ss p.part p.leads (p.node ∙ z) in
        let e : is_of f c [] ≡ false = ap (is_of f c) (sym w.0) ∙ class_is ss l ∙ k in
        sym (ap (λ us. option_and_then (place_of f at.block) (nearest f c us)) w.0 ∙ ap (λ b. option_and_then (place_of f at.block) (if b then Some [] else None)) e)

    module _ (ss : List Step) (l : Leads f ss at) (later : 1 ≤ at.node) where
      abbrev part_of_at : AtPart f ss at
      part_of_at = at_part f ss at here l

      abbrev such : IsIn ns ks f at.node at.slot
      such = part_in ns ks f ss at d part_of_at

      abbrev up : Above ns ks f ss part_of_at.part
      up = in_above ns ks f at.node at.slot such later row r

      up_showing : Showing up.outer.form up.last_step up.inner up.outer.node
      up_showing = showing up.outer.form up.last_step up.inner up.outer.node up.is_inner

      up_shown : row.under ≡ shown up.outer.form up.last_step up.inner up.outer.node
      up_shown = shown_is ns ks f at.node at.slot such later row r

      test_last : kind_is c row.kind ≡ false → is_of f c (up.init ++ up.last_step ∷ []) ≡ false
      test_last k = ap (is_of f c) (sym up.are_steps) ∙ class_is ss l ∙ k

      nearest_is : kind_is c row.kind ≡ false → nearest f c ss ≡ (if is_base up.last_step then nearest f c up.init else None)
      nearest_is k = ap (nearest f c) up.are_steps ∙ nearest_up f c up.init up.last_step (test_last k)

      none_above : kind_is c row.kind ≡ false → ((i : ℕ) → row.under.step ≡ step.Base i → ⊥) → None ≡ option_and_then (place_of f at.block) (nearest f c ss)
      none_above k never = sym (ap (option_and_then (place_of f at.block)) (nearest_is k ∙ go up_showing))
        where
          go : Showing up.outer.form up.last_step up.inner up.outer.node → (if is_base up.last_step then nearest f c up.init else None) ≡ None
          go (Element m g i fe se so sh) = ap (λ s. if is_base s then nearest f c up.init else None) se
          go (ABase i se sh) = absurd (never i (ap (λ (u : Under). u.step) (up_shown ∙ sh)))
          go (AMember i se sh) = ap (λ s. if is_base s then nearest f c up.init else None) se

      outer_place : (j : ℕ) → row.under.step ≡ step.Base j → (nearest_at : kind_is c row.kind ≡ false) → (row.under.offset ≤ at.slot) × Leads f up.init (record { block = at.block; slot = at.slot - row.under.offset; node = row.under.parent; past = false }) × (nearest f c ss ≡ nearest f c up.init)
      outer_place j z k = go up_showing
        where
          go : Showing up.outer.form up.last_step up.inner up.outer.node → (row.under.offset ≤ at.slot) × Leads f up.init (record { block = at.block; slot = at.slot - row.under.offset; node = row.under.parent; past = false }) × (nearest f c ss ≡ nearest f c up.init)
          go (Element m g i fe se so sh) = let w : step.Base j ≡ step.Elem 0 = sym z ∙ ap (λ (u : Under). u.step) (up_shown ∙ sh) in absurd (cc)
          go (AMember i se sh) = let w : step.Base j ≡ step.Field i = sym z ∙ ap (λ (u : Under). u.step) (up_shown ∙ sh) in absurd (cc)
          go (ABase i se sh) =
              let o : row.under.offset ≡ up.inner.slot = ap (λ (u : Under). u.offset) (up_shown ∙ sh) in
              let s : up.outer.slot + up.inner.slot ≡ part_of_at.part.slot = ap (λ (q : Part). q.slot) up.is_part in
              let t = part_of_at.slot in
              let at_slot : up.outer.slot ≡ at.slot - row.under.offset = omega arith in (
                omega arith,
                part_leads f up.init (record { block = at.block; slot = at.slot - row.under.offset; node = row.under.parent; past = false }) refl (record { part = up.outer; leads = up.leads; node = parent_node ns ks f at.node at.slot such later row r; slot = at_slot }),
                nearest_is k ∙ ap (λ s. if is_base s then nearest f c up.init else None) se,
              )

    pub no_base_encloses : kind_is c row.kind ≡ false → 1 ≤ at.node → ((i : ℕ) → row.under.step ≡ step.Base i → ⊥) → Encloses f at c None
    no_base_encloses k later never ss l = none_above ss l later k never

    pub parent_place : (j : ℕ) → 1 ≤ at.node → row.under.step ≡ step.Base j → kind_is c row.kind ≡ false → (row.under.offset ≤ at.slot) × (row.under.parent < at.node) × IsPlace f (record { block = at.block; slot = at.slot - row.under.offset; node = row.under.parent; past = false })
    parent_place j later z k =
        let a = outer_place h.0 h.1 later j z k in
        (a.0, parent_before ns ks f at.node at.slot (such h.0 h.1 later) later row r, ((up h.0 h.1 later).init, a.1))

    pub parent_encloses : (j : ℕ) (o : Option Place) → 1 ≤ at.node → row.under.step ≡ step.Base j → kind_is c row.kind ≡ false → Encloses f (record { block = at.block; slot = at.slot - row.under.offset; node = row.under.parent; past = false }) c o → Encloses f at c o
    parent_encloses j o later z k e ss l =
        let a = outer_place ss l later j z k in
        e (up ss l later).init a.1 ∙ sym (ap (option_and_then (place_of f at.block)) a.2)
