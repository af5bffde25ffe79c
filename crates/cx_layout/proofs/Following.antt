-- Following steps from the whole on, as far as they fit.
use Rattle.std.proofs.Common.{◌≡◌, ℕ, zero, suc, ◌*◌, ◌≤◌, ◌<◌, ◌==◌, nat_lt, Bool, true, false, true≢false, List, [], ◌∷◌, ◌++◌, length, take, drop, get_or, Option, None, Some, inl, inr, refl, sym, ap, subst, ◌∙◌, arith, slice_get, if◌then◌else◌, eqb-true, eq-eqb}
use Rattle.std.proofs.lemmas.Bool.{ltb-true, ltb-false, leb-true, leb-false, cases_Bool}
use Rattle.std.specs.Prelude.{option_map, option_and_then}
use Rattle.cx_type_defs.specs.declared.ids.Step.{Step}
use Rattle.cx_type_defs.specs.declared.ids.Step.TheVariants as step
use Rattle.cx_layout.specs.declared.columns.Node.{Node}
use Rattle.cx_layout.specs.declared.place.Place.{Place}
use Rattle.cx_layout.specs.Forms.{Form, Forms, Leaf, Row, Class, End, More, count, nodes, nodes_in, cells, cells_in, stride, Part, further, whole, item, part_of, below_of}
use Rattle.cx_layout.specs.Laid.{kind_of, IsNode}
use Rattle.cx_layout.specs.Places.{last_of, place_at, placed, Leads, HasStep, or_else, place_of}
use Rattle.cx_layout.specs.Described.{Described}
use Rattle.cx_layout.specs.Stepping.{LeadsOn, has_step}
use Rattle.cx_layout.proofs.Options.{some_inj, not_lt}
use Rattle.cx_layout.proofs.Parts.{laid_node, part_laid}
use Rattle.cx_layout.proofs.Placing.{AtPart, at_part, place_here, onward, place_append, last_next, last_place, place_of_last}
use Rattle.cx_layout.proofs.Pathing.{place_there}

-- a list from one item on

pub split : (ss : List Step) (i : ℕ) (d : Step) → i < length ss → ss ≡ take i ss ++ get_or ss i d ∷ drop (suc i) ss
split [] i d l = absurd (omega arith)
split (s ∷ ss) zero d l = refl
split (s ∷ ss) (suc i) d l = ap (λ us. s ∷ us) (split ss i d (omega arith))

pub take_more : (ss : List Step) (i : ℕ) (d : Step) → i < length ss → take (suc i) ss ≡ take i ss ++ get_or ss i d ∷ []
take_more [] i d l = absurd (omega arith)
take_more (s ∷ ss) zero d l = refl
take_more (s ∷ ss) (suc i) d l = ap (λ us. s ∷ us) (take_more ss i d (omega arith))

pub take_whole : (ss : List Step) (i : ℕ) → length ss ≤ i → take i ss ≡ ss
take_whole [] zero l = refl
take_whole [] (suc i) l = refl
take_whole (s ∷ ss) zero l = absurd (omega arith)
take_whole (s ∷ ss) (suc i) l = ap (λ us. s ∷ us) (take_whole ss i (omega arith))

-- there is an item exactly below the number of parts

item_there : (u : Bool) (fs : Forms) (i : ℕ) → i < count fs → (q : Part) × (item u fs i ≡ Some q)
item_there u End i l = absurd (omega arith)
item_there u (More f fs) zero l = (whole f, refl)
item_there u (More f fs) (suc i) l = let q = item_there u fs i (omega arith) in (further (nodes f) (stride u f) q.0, ap (option_map (further (nodes f) (stride u f))) q.1)

item_gone : (u : Bool) (fs : Forms) (i : ℕ) → count fs ≤ i → item u fs i ≡ None
item_gone u End i l = refl
item_gone u (More f fs) zero l = absurd (omega arith)
item_gone u (More f fs) (suc i) l = ap (option_map (further (nodes f) (stride u f))) (item_gone u fs i (omega arith))

-- a step that a node does not have leads nowhere

not_equal : (i m : ℕ) → m < i → (i == m) ≡ false
not_equal i m l = elim (cases_Bool (i == m)) as (λ _. (i == m) ≡ false) [ inl h ↦ (let w = eqb-true i m h in absurd (omega arith)) | inr h ↦ h ]

no_part : (f : Form) (s : Step) → has_step (kind_of f) s ≡ false → part_of f s ≡ None
no_part Leaf (step.Base i) h = refl
no_part Leaf (step.Field i) h = refl
no_part Leaf (step.Elem i) h = refl
no_part (Row n f) (step.Base i) h = refl
no_part (Row n f) (step.Field i) h = refl
no_part (Row n f) (step.Elem i) h = let l = leb-false i n h in ap (λ b. if b then Some (record { node = 1; slot = i * cells f; form = f }) else None) (not_lt i n (omega arith))
no_part (Class c u bs ms) (step.Base i) h = ap (option_map (further 1 1)) (item_gone false bs i (ltb-false i (count bs) h))
no_part (Class c u bs ms) (step.Field i) h = ap (option_map (further (suc (nodes_in bs)) (suc (cells_in false bs)))) (item_gone u ms i (ltb-false i (count ms) h))
no_part (Class c u bs ms) (step.Elem i) h = refl

no_last : (past : Bool) (f : Form) (s : Step) → has_step (kind_of f) s ≡ false → last_of past f s ≡ None
no_last true (Row n f) (step.Elem i) h = let l = leb-false i n h in ap (λ b. if b then Some (record { node = 1; slot = i * cells f; form = f }) else None) (not_equal i n (omega arith))
no_last false (Row n f) (step.Elem i) h = no_part (Row n f) (step.Elem i) h
no_last past Leaf (step.Base i) h = refl
no_last past Leaf (step.Field i) h = refl
no_last past Leaf (step.Elem i) h = refl
no_last past (Row n f) (step.Base i) h = refl
no_last past (Row n f) (step.Field i) h = refl
no_last past (Class c u bs ms) (step.Base i) h = no_part (Class c u bs ms) (step.Base i) h
no_last past (Class c u bs ms) (step.Field i) h = no_part (Class c u bs ms) (step.Field i) h
no_last past (Class c u bs ms) (step.Elem i) h = refl

nowhere : (past : Bool) (f : Form) (s : Step) (rest : List Step) → has_step (kind_of f) s ≡ false → place_at f past (s ∷ rest) ≡ None
nowhere past f s [] h = no_last past f s h
nowhere past f s (t ∷ rest) h = ap (option_and_then (λ (p : Part). option_map (further p.node p.slot) (place_at p.form past (t ∷ rest)))) (no_part f s h)

-- a step that it has leads somewhere

some_last : (f : Form) (s : Step) → has_step (kind_of f) s ≡ true → (past : Bool) × (q : Part) × (last_of past f s ≡ Some q)
some_last Leaf (step.Base i) h = absurd (cc)
some_last Leaf (step.Field i) h = absurd (cc)
some_last Leaf (step.Elem i) h = absurd (cc)
some_last (Row n f) (step.Base i) h = absurd (cc)
some_last (Row n f) (step.Field i) h = absurd (cc)
some_last (Row n f) (step.Elem i) h = elim (cases_Bool (nat_lt i n)) as (λ _. (past : Bool) × (q : Part) × (last_of past (Row n f) (step.Elem i) ≡ Some q)) [
  | inl l ↦ (false, record { node = 1; slot = i * cells f; form = f }, ap (λ b. if b then Some (record { node = 1; slot = i * cells f; form = f }) else None) l)
  | inr l ↦ (true, record { node = 1; slot = i * cells f; form = f }, ap (λ b. if b then Some (record { node = 1; slot = i * cells f; form = f }) else None) (equal (ltb-false i n l)))
]
  where
    equal : n ≤ i → (i == n) ≡ true
    equal l = let k = leb-true i n h in eq-eqb i n (omega arith)
some_last (Class c u bs ms) (step.Base i) h = let q = item_there false bs i (ltb-true i (count bs) h) in (false, further 1 1 q.0, ap (option_map (further 1 1)) q.1)
some_last (Class c u bs ms) (step.Field i) h = let q = item_there u ms i (ltb-true i (count ms) h) in (false, further (suc (nodes_in bs)) (suc (cells_in false bs)) q.0, ap (option_map (further (suc (nodes_in bs)) (suc (cells_in false bs)))) q.1)
some_last (Class c u bs ms) (step.Elem i) h = absurd (cc)

or_there : (o k : Option Place) (to : Place) → k ≡ Some to → (x : Place) × (or_else o k ≡ Some x)
or_there None k to e = (to, e)
or_there (Some x) k to e = (x, refl)

somewhere : (b : ℕ) (p : Part) (s : Step) → has_step (kind_of p.form) s ≡ true → (to : Place) × (last_place b p s ≡ Some to)
somewhere b p s h = go (some_last p.form s h)
  where
    go : (past : Bool) × (q : Part) × (last_of past p.form s ≡ Some q) → (to : Place) × (last_place b p s ≡ Some to)
    go (false, q, e) = (placed b false (further p.node p.slot q), ap (λ o. or_else (option_map (placed b false) (option_map (further p.node p.slot) o)) (option_map (placed b true) (last_next true s p))) e)
    go (true, q, e) = or_there (option_map (placed b false) (last_next false s p)) (option_map (placed b true) (last_next true s p)) (placed b true (further p.node p.slot q)) (ap (λ o. option_map (placed b true) (option_map (further p.node p.slot) o)) e)

-- what a place of steps says of them

pub record Answered (f : Form) (b : ℕ) (ss : List Step) (at : Place) : Type 0 where
  pub block : at.block ≡ b
  pub leads : Leads f ss at
  pub stops : at.past ≡ true → below_of f ss ≡ None

pub answered : (f : Form) (b : ℕ) (ss : List Step) (at : Place) → place_of f b ss ≡ Some at → Answered f b ss at
answered f b ss at e = go (place_at f false ss) (place_at f true ss) refl refl (sym refl ∙ e)
  where
    of : (past : Bool) (p : Part) → place_at f past ss ≡ Some p → (past ≡ true → below_of f ss ≡ None) → Answered f b ss (placed b past p)
    of past p h k = record { block = refl; leads = ap (option_map (placed b past)) h; stops = k }

    go : (x y : Option Part) → place_at f false ss ≡ x → place_at f true ss ≡ y → or_else (option_map (placed b false) x) (option_map (placed b true) y) ≡ Some at → Answered f b ss at
    go (Some p) y h k e = subst (Answered f b ss) (some_inj (placed b false p) at e) (of false p h (λ z. absurd (true≢false (sym z))))
    go None (Some p) h k e = subst (Answered f b ss) (some_inj (placed b true p) at e) (of true p k (λ z. sym (place_here f ss) ∙ h))
    go None None h k e = absurd (cc)

none_of : (f : Form) (b : ℕ) (ss : List Step) → ((past : Bool) → place_at f past ss ≡ None) → place_of f b ss ≡ None
none_of f b ss h =
    ap (λ o. or_else (option_map (placed b false) o) (option_map (placed b true) (place_at f true ss))) (h false)
    ∙ ap (option_map (placed b true)) (h true)

-- past an end there is no step
pub past_end : (f : Form) (b : ℕ) (ss : List Step) (s : Step) (rest : List Step) (at : Place) → place_of f b ss ≡ Some at → at.past ≡ true → place_of f b (ss ++ s ∷ rest) ≡ None
past_end f b ss s rest at e z = none_of f b (ss ++ s ∷ rest) (λ past. place_append f past ss s rest ∙ ap (option_and_then (onward past (s ∷ rest))) ((answered f b ss at e).stops z))

module _ (ns : List Node) (ks : List ℕ) (f : Form) (b : ℕ) (d : Described ns ks f) (ss : List Step) (s : Step) (at : Place) (e : place_of f b ss ≡ Some at) where
  pub is_there : at.node < length ns
  is_there = place_there ns ks f at d (ss, (answered f b ss at e).leads)

  module _ (here : at.past ≡ false) (row : Node) (r : slice_get ns at.node ≡ Some row) where
    part_here : AtPart f ss at
    part_here = at_part f ss at here (answered f b ss at e).leads

    kind_here : row.kind ≡ kind_of part_here.part.form
    kind_here =
        let n : IsNode ns at.node part_here.part.form = subst (λ k. IsNode ns k part_here.part.form) part_here.node (laid_node ns ks part_here.part.node part_here.part.form (part_laid ns ks f ss part_here.part d.laid part_here.leads)) in
        ap (λ (x : Node). x.kind) (some_inj row n.row (sym r ∙ n.is_row)) ∙ n.kind

    pub not_fitting : (rest : List Step) → has_step row.kind s ≡ false → place_of f b (ss ++ s ∷ rest) ≡ None
    not_fitting rest h =
        none_of f b (ss ++ s ∷ rest) (λ past. place_append f past ss s rest ∙ ap (option_and_then (onward past (s ∷ rest))) part_here.leads
        ∙ ap (option_map (further part_here.part.node part_here.part.slot)) (nowhere past part_here.part.form s rest (ap (λ k. has_step k s) (sym kind_here) ∙ h)))

    pub fitting : has_step row.kind s ≡ true → HasStep f at s
    fitting h =
        let t = somewhere at.block part_here.part s (ap (λ k. has_step k s) (sym kind_here) ∙ h) in
        (ss, t.0, (answered f b ss at e).leads, place_of_last f at.block ss s part_here.part part_here.leads ∙ t.1)

    pub one_on : (to : Place) → LeadsOn f at s to → place_of f b (ss ++ s ∷ []) ≡ Some to
    one_on to h = ap (λ n. place_of f n (ss ++ s ∷ [])) (sym (answered f b ss at e).block) ∙ h ss (answered f b ss at e).leads
