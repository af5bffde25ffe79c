-- The steps that are told of a place lead to it, and they are those that lead to it.
use Rattle.std.proofs.Common.{◌≡◌, ℕ, zero, suc, ◌+◌, ◌*◌, ◌-◌, ◌≤◌, ◌==◌, Bool, true, false, ◌&&◌, List, [], ◌∷◌, ◌++◌, Option, None, Some, ◌⊎◌, inl, inr, refl, sym, ap, subst, ◌∙◌, arith, if◌then◌else◌, eqb-true, eq-eqb}
use Rattle.std.proofs.lemmas.Bool.{cases_Bool}
use Rattle.std.specs.Prelude.{option_map, unwrap_or}
use Rattle.std.specs.List.{find}
use Rattle.cx_type_defs.specs.declared.ids.Step.{Step}
use Rattle.cx_type_defs.specs.declared.ids.Step.TheVariants as step
use Rattle.cx_layout.specs.declared.place.Place.{Place}
use Rattle.cx_layout.specs.Forms.{Form, Leaf, Row, Class, Part, cells, below_of, PartsFull}
use Rattle.cx_layout.specs.Places.{Leads, place_at, placed}
use Rattle.cx_layout.proofs.Options.{some_inj, map_some}
use Rattle.cx_layout.proofs.WaysBack.{way, way_back}
use Rattle.cx_layout.proofs.Placing.{AtPart, at_part}
use Rattle.cx_layout.proofs.Pasts.{ArrayEnd, End, OfArray, OfOther, end_of}
use Rattle.cx_layout.proofs.Shapes.{one_list}
use Rattle.cx_blocks.specs.Paths.{nowhere, count_of, end_steps, ends_before, is_part, do_lead, steps_to}

both_true : (a b : Bool) → (a && b) ≡ true → (a ≡ true) × (b ≡ true)
both_true true b e = (refl, e)
both_true false b e = absurd (cc)

pub lead_true : (f : Form) (at : Place) (ss : List Step) → do_lead f at ss ≡ true → Leads f ss at
lead_true f at ss e = go (place_at f at.past ss) e
  where
    go : (o : Option Part) → unwrap_or (option_map (is_part at) o) false ≡ true → option_map (placed at.block at.past) o ≡ Some at
    go None e = absurd (cc)
    go (Some p) e =
        let b = both_true (p.node == at.node) (p.slot == at.slot) e in
        ap (λ n. Some (record { block = at.block; slot = p.slot; node = n; past = at.past })) (eqb-true p.node at.node b.0)
        ∙ ap (λ n. Some (record { block = at.block; slot = n; node = at.node; past = at.past })) (eqb-true p.slot at.slot b.1)

pub lead_holds : (f : Form) (at : Place) (ss : List Step) → Leads f ss at → do_lead f at ss ≡ true
lead_holds f at ss h =
    let m = map_some (placed at.block at.past) (place_at f at.past ss) at h in
    ap (λ o. unwrap_or (option_map (is_part at) o) false) m.1
    ∙ ap (λ b. b && (m.0.slot == at.slot)) (eq-eqb m.0.node at.node (ap (λ (p : Place). p.node) m.2))
    ∙ eq-eqb m.0.slot at.slot (ap (λ (p : Place). p.slot) m.2)

-- finding

abbrev Found : (List Step → Bool) → List (List Step) → Type 0
Found test xs = (us : List Step) × (find test xs ≡ Some us)

here : (test : List Step → Bool) (x : List Step) (xs : List (List Step)) → test x ≡ true → Found test (x ∷ xs)
here test x xs e = (x, ap (λ b. if b then Some x else find test xs) e)

further : (test : List Step → Bool) (x : List Step) (xs : List (List Step)) → Found test xs → Found test (x ∷ xs)
further test x xs h = go (test x) refl
  where
    go : (b : Bool) → test x ≡ b → Found test (x ∷ xs)
    go true e = (x, ap (λ b. if b then Some x else find test xs) e)
    go false e = (h.0, ap (λ b. if b then Some x else find test xs) e ∙ h.1)

find_holds : (test : List Step → Bool) (xs : List (List Step)) (x : List Step) → find test xs ≡ Some x → test x ≡ true
find_holds test [] x e = absurd (cc)
find_holds test (y ∷ ys) x e = go (test y) refl (find_holds test ys x) e
  where
    go : (b : Bool) → test y ≡ b → (find test ys ≡ Some x → test x ≡ true) → (if b then Some y else find test ys) ≡ Some x → test x ≡ true
    go true h later e = ap test (sym (some_inj y x e)) ∙ h
    go false h later e = later e

module _ (f : Form) (at : Place) (ss : List Step) (leads : Leads f ss at) where
  test : do_lead f at ss ≡ true
  test = lead_holds f at ss leads

  -- so many cells before is the array
  in_ends : (n k : ℕ) → k ≤ n → end_steps f (way f (at.node - 1) (at.slot - k)) ≡ ss → Found (do_lead f at) (ends_before f at n)
  in_ends zero k l e =
      let z : at.slot - k ≡ at.slot = omega arith in
      let w : end_steps f (way f (at.node - 1) at.slot) ≡ ss = ap (λ m. end_steps f (way f (at.node - 1) m)) (sym z) ∙ e in
      here (do_lead f at) (end_steps f (way f (at.node - 1) at.slot)) [] (ap (do_lead f at) w ∙ test)
  in_ends (suc n) k l e = go (cases_Bool (k == suc n)) (λ h. in_ends n k h e)
    where
      not_same : (k == suc n) ≡ false → k ≤ n
      not_same z = elim (cases_Bool (k == suc n)) as (λ _. k ≤ n) [
        | inl h ↦ absurd (different (sym h ∙ z))
        | inr h ↦ less h
      ]
        where
          different : true ≡ false → ⊥
          different e = cc

          less : (k == suc n) ≡ false → k ≤ n
          less h = let apart : k ≡ suc n → ⊥ = λ q. different (sym (eq-eqb k (suc n) q) ∙ h) in omega arith

      go : ((k == suc n) ≡ true) ⊎ ((k == suc n) ≡ false) → (k ≤ n → Found (do_lead f at) (ends_before f at n)) → Found (do_lead f at) (ends_before f at (suc n))
      go (inl h) later =
          let w : end_steps f (way f (at.node - 1) (at.slot - suc n)) ≡ ss = ap (λ m. end_steps f (way f (at.node - 1) (at.slot - m))) (sym (eqb-true k (suc n) h)) ∙ e in
          here (do_lead f at) (end_steps f (way f (at.node - 1) (at.slot - suc n))) (ends_before f at n) (ap (do_lead f at) w ∙ test)
      go (inr h) later = further (do_lead f at) (end_steps f (way f (at.node - 1) (at.slot - suc n))) (ends_before f at n) (later (not_same h))

  module _ (full : PartsFull f) where
    part_found : AtPart f ss at → Found (do_lead f at) (way f at.node at.slot ∷ ends_before f at at.slot)
    part_found p =
        let w : way f at.node at.slot ≡ ss = ap (λ n. way f n at.slot) (sym p.node) ∙ ap (way f p.part.node) (sym p.slot) ∙ way_back f ss p.part full p.leads in
        here (do_lead f at) (way f at.node at.slot) (ends_before f at at.slot) (ap (do_lead f at) w ∙ test)

    end_found : ArrayEnd f ss at → Found (do_lead f at) (way f at.node at.slot ∷ ends_before f at at.slot)
    end_found e =
        let n = e.node in
        let s = e.slot in
        let k = e.count * cells e.element in
        let a : at.node - 1 ≡ e.array.node = omega arith in
        let b : at.slot - k ≡ e.array.slot = omega arith in
        let l : k ≤ at.slot = omega arith in
        let init : way f (at.node - 1) (at.slot - k) ≡ e.init = ap (λ m. way f m (at.slot - k)) a ∙ ap (way f e.array.node) b ∙ way_back f e.init e.array full e.leads in
        let count : unwrap_or (option_map (λ (p : Part). count_of p.form) (below_of f e.init)) 0 ≡ e.count = ap (λ o. unwrap_or (option_map (λ (p : Part). count_of p.form) o) 0) e.leads ∙ ap count_of e.form_is in
        further (do_lead f at) (way f at.node at.slot) (ends_before f at at.slot)
        (in_ends at.slot k l (ap (end_steps f) init ∙ ap (λ m. e.init ++ step.Elem m ∷ []) count ∙ sym e.are_steps))

    found : Found (do_lead f at) (way f at.node at.slot ∷ ends_before f at at.slot)
    found = elim (cases_Bool at.past) as (λ _. Found (do_lead f at) (way f at.node at.slot ∷ ends_before f at at.slot)) [
      | inl z ↦ past (end_of f ss at z leads)
      | inr z ↦ part_found (at_part f ss at z leads)
    ]
      where
        past : End f ss at → Found (do_lead f at) (way f at.node at.slot ∷ ends_before f at at.slot)
        past (OfArray e) = end_found e
        past (OfOther o) = part_found o.part

    -- the steps that lead to a place are told
    pub steps_are : steps_to f at ≡ ss
    unfolding steps_to
    steps_are =
        let h = found in
        let there = lead_true f at h.0 (find_holds (do_lead f at) (way f at.node at.slot ∷ ends_before f at at.slot) h.0 h.1) in
        ap (λ o. unwrap_or o nowhere) h.1 ∙ one_list f at full h.0 ss there leads

-- what is told leads there, or no object has such steps
pub surely : (f : Form) (at : Place) → (steps_to f at ≡ nowhere) ⊎ Leads f (steps_to f at) at
unfolding steps_to
surely f at = go (find (do_lead f at) (way f at.node at.slot ∷ ends_before f at at.slot)) refl
  where
    go : (o : Option (List Step)) → find (do_lead f at) (way f at.node at.slot ∷ ends_before f at at.slot) ≡ o → (unwrap_or o nowhere ≡ nowhere) ⊎ Leads f (unwrap_or o nowhere) at
    go (Some us) e = inr (lead_true f at us (find_holds (do_lead f at) (way f at.node at.slot ∷ ends_before f at at.slot) us e))
    go None e = inl refl

-- to the whole object lead no steps
pub whole_steps : (f : Form) (n : ℕ) → steps_to f (record { block = n; slot = 0; node = 0; past = false }) ≡ []
unfolding steps_to
whole_steps f n = ap (λ us. unwrap_or (if do_lead f (record { block = n; slot = 0; node = 0; past = false }) us then Some us else find (do_lead f (record { block = n; slot = 0; node = 0; past = false })) (ends_before f (record { block = n; slot = 0; node = 0; past = false }) 0)) nowhere) (none f)
  where
    none : (f : Form) → way f 0 0 ≡ []
    none Leaf = refl
    none (Row m f) = refl
    none (Class k u bs ms) = refl
