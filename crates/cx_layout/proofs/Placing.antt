-- What steps lead to, by their last step.
use Rattle.std.proofs.Common.{◌≡◌, ℕ, ◌+◌, ◌*◌, ◌≤◌, ◌<◌, ◌==◌, nat_lt, Bool, true, false, List, [], ◌∷◌, ◌++◌, Option, None, Some, inl, inr, refl, sym, ap, ◌∙◌, arith, if◌then◌else◌, eqb-true}
use Rattle.std.proofs.lemmas.Bool.{ltb-true, cases_Bool}
use Rattle.std.specs.Prelude.{option_map, option_and_then}
use Rattle.cx_type_defs.specs.declared.ids.Step.{Step}
use Rattle.cx_type_defs.specs.declared.ids.Step.TheVariants as step
use Rattle.cx_layout.specs.declared.place.Place.{Place}
use Rattle.cx_layout.specs.Forms.{Form, Leaf, Row, Class, cells, Part, further, part_of, below_of, PartsFull}
use Rattle.cx_layout.specs.Places.{last_of, place_at, placed, Leads, or_else, place_of}
use Rattle.cx_layout.proofs.Options.{some_inj, map_some}
use Rattle.cx_layout.proofs.Fitting.{further_twice, below_last, next, Last, Nothing, After, last}
use Rattle.cx_layout.proofs.WaysBack.{one_way}

pub last_false : (f : Form) (s : Step) → last_of false f s ≡ part_of f s
last_false Leaf (step.Base i) = refl
last_false Leaf (step.Field i) = refl
last_false Leaf (step.Elem i) = refl
last_false (Row n f) (step.Base i) = refl
last_false (Row n f) (step.Field i) = refl
last_false (Row n f) (step.Elem i) = refl
last_false (Class c u bs ms) (step.Base i) = refl
last_false (Class c u bs ms) (step.Field i) = refl
last_false (Class c u bs ms) (step.Elem i) = refl

-- a step to a base or a member
abbrev pub IsListed : Step → Type 0
IsListed (step.Elem i) = ⊥
IsListed s = Unit {0}

pub last_listed : (past : Bool) (f : Form) (s : Step) → IsListed s → last_of past f s ≡ part_of f s
last_listed past f (step.Elem i) h = absurd h
last_listed past Leaf (step.Base i) h = refl
last_listed past Leaf (step.Field i) h = refl
last_listed past (Row n f) (step.Base i) h = refl
last_listed past (Row n f) (step.Field i) h = refl
last_listed past (Class c u bs ms) (step.Base i) h = refl
last_listed past (Class c u bs ms) (step.Field i) h = refl

abbrev pub last_next : Bool → Step → Part → Option Part
last_next past s p = option_map (further p.node p.slot) (last_of past p.form s)

place_more : (f : Form) (past : Bool) (t : Step) (us : List Step) (s : Step) (rest : List Step) → place_at f past (t ∷ (us ++ s ∷ rest)) ≡ option_and_then (λ (p : Part). option_map (further p.node p.slot) (place_at p.form past (us ++ s ∷ rest))) (part_of f t)
place_more f past t [] s rest = refl
place_more f past t (u ∷ us) s rest = refl

map_none : (o : Option Part) → option_map (further 0 0) o ≡ o
map_none None = refl
map_none (Some p) =
    let x : 0 + p.node ≡ p.node = omega arith in
    let y : 0 + p.slot ≡ p.slot = omega arith in
    ap (λ k. Some (record { node = k; slot = 0 + p.slot; form = p.form })) x ∙ ap (λ k. Some (record { node = p.node; slot = k; form = p.form })) y

abbrev pub onward : Bool → List Step → Part → Option Part
onward past ss p = option_map (further p.node p.slot) (place_at p.form past ss)

-- first to the part at the end of some steps, and from it on
pub place_append : (f : Form) (past : Bool) (ss : List Step) (s : Step) (rest : List Step) → place_at f past (ss ++ s ∷ rest) ≡ option_and_then (onward past (s ∷ rest)) (below_of f ss)
place_append f past [] s rest = sym (map_none (place_at f past (s ∷ rest)))
place_append f past (t ∷ ss) s rest = place_more f past t ss s rest ∙ go (part_of f t) (λ p. place_append p.form past ss s rest)
  where
    inner : (p : Part) (o : Option Part) → option_map (further p.node p.slot) (option_and_then (onward past (s ∷ rest)) o) ≡ option_and_then (onward past (s ∷ rest)) (option_map (further p.node p.slot) o)
    inner p None = refl
    inner p (Some q) = twice (place_at q.form past (s ∷ rest))
      where
        twice : (o : Option Part) → option_map (further p.node p.slot) (option_map (further q.node q.slot) o) ≡ option_map (further (p.node + q.node) (p.slot + q.slot)) o
        twice None = refl
        twice (Some r) = ap Some (further_twice p.node p.slot q.node q.slot r)

    go : (o : Option Part) → ((p : Part) → place_at p.form past (ss ++ s ∷ rest) ≡ option_and_then (onward past (s ∷ rest)) (below_of p.form ss)) → option_and_then (λ (p : Part). option_map (further p.node p.slot) (place_at p.form past (ss ++ s ∷ rest))) o ≡ option_and_then (onward past (s ∷ rest)) (option_and_then (λ (p : Part). option_map (further p.node p.slot) (below_of p.form ss)) o)
    go None ih = refl
    go (Some p) ih = ap (option_map (further p.node p.slot)) (ih p) ∙ inner p (below_of p.form ss)

pub place_last : (f : Form) (past : Bool) (ss : List Step) (s : Step) → place_at f past (ss ++ s ∷ []) ≡ option_and_then (last_next past s) (below_of f ss)
place_last f past ss s = place_append f past ss s []

-- without the mark it is the part
pub place_here : (f : Form) (ss : List Step) → place_at f false ss ≡ below_of f ss
place_here f ss = go ss (last ss)
  where
    same : (s : Step) (o : Option Part) → option_and_then (last_next false s) o ≡ option_and_then (next s) o
    same s None = refl
    same s (Some p) = ap (option_map (further p.node p.slot)) (last_false p.form s)

    go : (ss : List Step) → Last ss → place_at f false ss ≡ below_of f ss
    go [] Nothing = refl
    go (_) (After us u) = place_last f false us u ∙ same u (below_of f us) ∙ sym (below_last f us u)

pub record AtPart (f : Form) (ss : List Step) (at : Place) : Type 0 where
  pub part : Part
  pub leads : below_of f ss ≡ Some part
  pub node : part.node ≡ at.node
  pub slot : part.slot ≡ at.slot

pub at_part : (f : Form) (ss : List Step) (at : Place) → at.past ≡ false → Leads f ss at → AtPart f ss at
at_part f ss at z h =
    let m = map_some (placed at.block at.past) (place_at f at.past ss) at h in
    record {
      part = m.0;
      leads = sym (place_here f ss) ∙ ap (λ b. place_at f b ss) (sym z) ∙ m.1;
      node = ap (λ (p : Place). p.node) m.2;
      slot = ap (λ (p : Place). p.slot) m.2;
    }

-- a part is a place
pub part_leads : (f : Form) (ss : List Step) (at : Place) → at.past ≡ false → AtPart f ss at → Leads f ss at
part_leads f ss at z h =
    ap (λ b. option_map (placed at.block at.past) (place_at f b ss)) z ∙ ap (option_map (placed at.block at.past)) (place_here f ss ∙ h.leads)
    ∙ ap (λ n. Some (record { block = at.block; slot = h.part.slot; node = n; past = at.past })) h.node
    ∙ ap (λ n. Some (record { block = at.block; slot = n; node = at.node; past = at.past })) h.slot

pub one_place : (f : Form) (ss us : List Step) (at : Place) → PartsFull f → at.past ≡ false → Leads f ss at → Leads f us at → ss ≡ us
one_place f ss us at w z a b =
    let p = at_part f ss at z a in
    let q = at_part f us at z b in
    one_way f ss us p.part q.part w p.leads q.leads (p.node ∙ sym q.node) (p.slot ∙ sym q.slot)

-- one step more

abbrev pub last_place : ℕ → Part → Step → Option Place
last_place b p s = or_else (option_map (placed b false) (last_next false s p)) (option_map (placed b true) (last_next true s p))

pub place_of_last : (f : Form) (b : ℕ) (ss : List Step) (s : Step) (p : Part) → below_of f ss ≡ Some p → place_of f b (ss ++ s ∷ []) ≡ last_place b p s
place_of_last f b ss s p h =
    let x : place_at f false (ss ++ s ∷ []) ≡ last_next false s p = place_last f false ss s ∙ ap (option_and_then (last_next false s)) h in
    let y : place_at f true (ss ++ s ∷ []) ≡ last_next true s p = place_last f true ss s ∙ ap (option_and_then (last_next true s)) h in
    ap (λ o. or_else (option_map (placed b false) o) (option_map (placed b true) (place_at f true (ss ++ s ∷ [])))) x
    ∙ ap (λ o. or_else (option_map (placed b false) (last_next false s p)) (option_map (placed b true) o)) y

pub listed_place : (b : ℕ) (p : Part) (s : Step) (to : Place) → IsListed s → last_place b p s ≡ Some to → (q : Part) × (part_of p.form s ≡ Some q) × (placed b false (further p.node p.slot q) ≡ to)
listed_place b p s to h e = go (part_of p.form s) refl
  where
    shape : (o : Option Part) → part_of p.form s ≡ o → last_place b p s ≡ or_else (option_map (placed b false) (option_map (further p.node p.slot) o)) (option_map (placed b true) (option_map (further p.node p.slot) o))
    shape o z =
        ap (λ x. or_else (option_map (placed b false) (option_map (further p.node p.slot) x)) (option_map (placed b true) (last_next true s p))) (last_listed false p.form s h ∙ z)
        ∙ ap (λ x. or_else (option_map (placed b false) (option_map (further p.node p.slot) o)) (option_map (placed b true) (option_map (further p.node p.slot) x))) (last_listed true p.form s h ∙ z)

    go : (o : Option Part) → part_of p.form s ≡ o → (q : Part) × (part_of p.form s ≡ Some q) × (placed b false (further p.node p.slot q) ≡ to)
    go None z = let w : None ≡ Some to = sym (shape None z) ∙ e in absurd (cc)
    go (Some q) z = (q, z, some_inj (placed b false (further p.node p.slot q)) to (sym (shape (Some q) z) ∙ e))

pub record ElementPlace (b n o i : ℕ) (f : Form) (to : Place) : Type 0 where
  pub count : ℕ
  pub element : Form
  pub form_is : f ≡ Row count element
  pub within : i ≤ count
  pub to_is : to ≡ record { block = b; slot = o + i * cells element; node = n + 1; past = i == count }

abbrev ended : ℕ → ℕ → ℕ → Form → ℕ → Bool → Option Place
ended b n o f i past = option_map (placed b past) (option_map (further n o) (last_of past f (step.Elem i)))

element_in : (b n o i : ℕ) (f : Form) (to : Place) → or_else (ended b n o f i false) (ended b n o f i true) ≡ Some to → ElementPlace b n o i f to
element_in b n o i Leaf to e = absurd (cc)
element_in b n o i (Class c u bs ms) to e = absurd (cc)
element_in b n o i (Row m g) to e = go (nat_lt i m) (i == m) refl refl
  where
    here : Bool → Place
    here past = record { block = b; slot = o + i * cells g; node = n + 1; past = past }

    pick : (x : Bool) (past : Bool) → Option Place
    pick x past = option_map (placed b past) (option_map (further n o) (if x then Some (record { node = 1; slot = i * cells g; form = g }) else None))

    shape : (x y : Bool) → nat_lt i m ≡ x → (i == m) ≡ y → or_else (ended b n o (Row m g) i false) (ended b n o (Row m g) i true) ≡ or_else (pick x false) (pick y true)
    shape x y h k = ap (λ z. or_else (pick z false) (ended b n o (Row m g) i true)) h ∙ ap (λ z. or_else (pick x false) (pick z true)) k

    not_equal : (i m : ℕ) → i < m → (i == m) ≡ false
    not_equal i m l = elim (cases_Bool (i == m)) as (λ _. (i == m) ≡ false) [ inl h ↦ (let w = eqb-true i m h in absurd (omega arith)) | inr h ↦ h ]

    go : (x y : Bool) → nat_lt i m ≡ x → (i == m) ≡ y → ElementPlace b n o i (Row m g) to
    go true y h k =
        let l : i < m = ltb-true i m h in
        record {
          count = m;
          element = g;
          form_is = refl;
          within = omega arith;
          to_is = sym (some_inj (here false) to (sym (shape true y h k) ∙ e)) ∙ ap here (sym (not_equal i m l));
        }
    go false true h k =
        let l : i ≡ m = eqb-true i m k in
        record {
          count = m;
          element = g;
          form_is = refl;
          within = omega arith;
          to_is = sym (some_inj (here true) to (sym (shape false true h k) ∙ e)) ∙ ap here (sym k);
        }
    go false false h k = let w : None ≡ Some to = sym (shape false false h k) ∙ e in absurd (cc)

pub element_place : (b i : ℕ) (p : Part) (to : Place) → last_place b p (step.Elem i) ≡ Some to → ElementPlace b p.node p.slot i p.form to
element_place b i p to e = element_in b p.node p.slot i p.form to e

-- steps and mark lead to one place
pub same_steps : (f : Form) (ss : List Step) (p q : Place) → p.block ≡ q.block → p.past ≡ q.past → Leads f ss p → Leads f ss q → p ≡ q
same_steps f ss p q b m h k =
    some_inj p q
    (sym h ∙ ap (λ n. option_map (placed n p.past) (place_at f p.past ss)) b ∙ ap (λ n. option_map (placed q.block n) (place_at f n ss)) m ∙ k)
