-- The places past an end: past the last element of an array, or past another part.
use Rattle.std.proofs.Common.{◌≡◌, ℕ, ◌+◌, ◌*◌, ◌==◌, true, List, [], ◌∷◌, ◌++◌, Some, refl, sym, ap, ◌∙◌, eqb-true}
use Rattle.std.specs.Prelude.{option_map, option_and_then}
use Rattle.cx_type_defs.specs.declared.ids.Step.{Step}
use Rattle.cx_type_defs.specs.declared.ids.Step.TheVariants as step
use Rattle.cx_layout.specs.declared.place.Place.{Place}
use Rattle.cx_layout.specs.Forms.{Form, Leaf, Row, Class, cells, Part, further, whole, part_of, below_of}
use Rattle.cx_layout.specs.Places.{last_of, place_at, placed, Leads}
use Rattle.cx_layout.proofs.Options.{some_inj, and_then_some, map_some, if_some}
use Rattle.cx_layout.proofs.Fitting.{below_last, next, Last, Nothing, After, last}
use Rattle.cx_layout.proofs.Placing.{IsListed, AtPart, last_next, place_last}

pub record ArrayEnd (f : Form) (ss : List Step) (at : Place) : Type 0 where
  pub init : List Step
  pub array : Part
  pub count : ℕ
  pub element : Form
  pub are_steps : ss ≡ init ++ step.Elem count ∷ []
  pub leads : below_of f init ≡ Some array
  pub form_is : array.form ≡ Row count element
  pub node : at.node ≡ array.node + 1
  pub slot : at.slot ≡ array.slot + count * cells element

-- the part that a marked place is past, if it is no element
pub record OtherEnd (f : Form) (ss : List Step) (at : Place) : Type 0 where
  pub part : AtPart f ss at
  pub no_element : (init : List Step) (i : ℕ) → ss ≡ init ++ step.Elem i ∷ [] → ⊥

pub data End (f : Form) (ss : List Step) (at : Place) : Type 0 where
  OfArray : ArrayEnd f ss at → End f ss at
  OfOther : OtherEnd f ss at → End f ss at

pub no_last : (init : List Step) (s : Step) → [] ≡ init ++ s ∷ [] → ⊥
no_last [] s e = absurd (cc)
no_last (t ∷ init) s e = absurd (cc)

pub last_is : (xs ys : List Step) (s u : Step) → xs ++ s ∷ [] ≡ ys ++ u ∷ [] → s ≡ u
last_is [] [] s u e = cc
last_is [] (y ∷ []) s u e = absurd (cc)
last_is [] (y ∷ (z ∷ ys)) s u e = absurd (cc)
last_is (x ∷ []) [] s u e = absurd (cc)
last_is (x ∷ (z ∷ xs)) [] s u e = absurd (cc)
last_is (x ∷ xs) (y ∷ ys) s u e = last_is xs ys s u (cc)

array_last : (n : ℕ) (f : Form) (m : ℕ) (q : Part) → last_of true f (step.Elem m) ≡ Some q → (g : Form) × (f ≡ Row m g) × (q ≡ record { node = 1; slot = m * cells g; form = g })
array_last n Leaf m q e = absurd (cc)
array_last n (Class c u bs ms) m q e = absurd (cc)
array_last n (Row k g) m q e =
    let w = if_some (m == k) (record { node = 1; slot = m * cells g; form = g }) q e in
    (g, ap (λ j. Row j g) (sym (eqb-true m k w.0)), sym w.1)

pub end_of : (f : Form) (ss : List Step) (at : Place) → at.past ≡ true → Leads f ss at → End f ss at
end_of f ss at z h = go ss (last ss) (map_some (placed at.block at.past) (place_at f at.past ss) at h)
  where
    go : (ss : List Step) → Last ss → (p : Part) × (place_at f at.past ss ≡ Some p) × (placed at.block at.past p ≡ at) → End f ss at
    go [] Nothing m =
        let w : whole f ≡ m.0 = some_inj (whole f) m.0 (ap (λ b. place_at f b []) (sym z) ∙ m.1) in
        OfOther (record {
          part = record { part = whole f; leads = refl; node = ap (λ (q : Part). q.node) w ∙ ap (λ (x : Place). x.node) m.2; slot = ap (λ (q : Part). q.slot) w ∙ ap (λ (x : Place). x.slot) m.2 };
          no_element = λ init i e. no_last init (step.Elem i) e;
        })
    go (_) (After us u) m =
        let a = and_then_some (last_next true u) (below_of f us) m.0 (sym (place_last f true us u) ∙ ap (λ b. place_at f b (us ++ u ∷ [])) (sym z) ∙ m.1) in
        let b = map_some (further a.0.node a.0.slot) (last_of true a.0.form u) m.0 a.2 in
        by u a.0 a.1 b.0 b.1 (ap (λ (q : Part). q.node) b.2 ∙ ap (λ (x : Place). x.node) m.2) (ap (λ (q : Part). q.slot) b.2 ∙ ap (λ (x : Place). x.slot) m.2)
      where
        listed : (u : Step) → IsListed u → (o q : Part) → below_of f us ≡ Some o → part_of o.form u ≡ Some q → o.node + q.node ≡ at.node → o.slot + q.slot ≡ at.slot → ((i : ℕ) → u ≡ step.Elem i → ⊥) → End f (us ++ u ∷ []) at
        listed u l o q e k n s never =
            OfOther (record {
              part = record { part = further o.node o.slot q; leads = below_last f us u ∙ ap (option_and_then (next u)) e ∙ ap (option_map (further o.node o.slot)) k; node = n; slot = s };
              no_element = λ init i w. never i (last_is us init u (step.Elem i) w);
            })

        part_last : (g : Form) (u : Step) (q : Part) → IsListed u → last_of true g u ≡ Some q → part_of g u ≡ Some q
        part_last g (step.Elem i) q l e = absurd l
        part_last Leaf (step.Base i) q l e = e
        part_last Leaf (step.Field i) q l e = e
        part_last (Row n g) (step.Base i) q l e = e
        part_last (Row n g) (step.Field i) q l e = e
        part_last (Class c v bs ms) (step.Base i) q l e = e
        part_last (Class c v bs ms) (step.Field i) q l e = e

        by : (u : Step) (o : Part) → below_of f us ≡ Some o → (q : Part) → last_of true o.form u ≡ Some q → o.node + q.node ≡ at.node → o.slot + q.slot ≡ at.slot → End f (us ++ u ∷ []) at
        by (step.Base i) o e q k n s = listed (step.Base i) tt o q e (part_last o.form (step.Base i) q tt k) n s (λ j w. absurd (cc))
        by (step.Field i) o e q k n s = listed (step.Field i) tt o q e (part_last o.form (step.Field i) q tt k) n s (λ j w. absurd (cc))
        by (step.Elem i) o e q k n s =
            let r = array_last 0 o.form i q k in
            OfArray (record {
              init = us;
              array = o;
              count = i;
              element = r.0;
              are_steps = refl;
              leads = e;
              form_is = r.1;
              node = sym n ∙ ap (λ (x : Part). o.node + x.node) r.2;
              slot = sym s ∙ ap (λ (x : Part). o.slot + x.slot) r.2;
            })
