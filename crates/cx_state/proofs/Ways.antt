-- The conditions on what is on the way to a place say what they say front by front.
use Rattle.std.proofs.Common.{◌≡◌, Bool, true, false, List, [], ◌∷◌, ◌++◌, Option, None, Some, inl, inr, refl, ap, ◌∙◌, unwrap_or}
use Rattle.std.specs.List.{list_any}
use Rattle.std.specs.Prelude.{option_map, option_and_then}
use Rattle.std.proofs.lemmas.Bool.{or_cases, or_left, or_right}
use Rattle.cx_type_defs.specs.declared.ids.Step.{Step}
use Rattle.cx_type_defs.specs.declared.kind.TypeRow.{TypeRow}
use Rattle.cx_type_defs.specs.Tables.{Tables}
use Rattle.cx_type_defs.proofs.Lists.{some_inj, option_and_then-some}
use Rattle.cx_state.specs.Objects.{Tree, part, below}
use Rattle.cx_state.specs.Places.{row_part, row_below}
use Rattle.cx_state.specs.Conditions.{on_way, is_sealed, sealed}
use Rattle.cx_state.specs.Ways.{OnWay, SealedOnWay}

module _ (test : Tree × Step → Bool) where
  -- a test of the parts from one on
  abbrev from-part : List Step → Option Tree → Bool
  from-part ss o = list_any test (unwrap_or (option_map (λ y. on_way y ss) o) [])

  part-there : (ss : List Step) (o : Option Tree) → from-part ss o ≡ true → (y : Tree) × (o ≡ Some y) × (list_any test (on_way y ss) ≡ true)
  part-there ss None e = absurd (cc)
  part-there ss (Some y) e = (y, refl, e)

  pub way-told : (x : Tree) (ss : List Step) → list_any test (on_way x ss) ≡ true → OnWay test x ss
  way-told x [] e = absurd (cc)
  way-told x (s ∷ ss) e = elim (or_cases (test (x, s)) (from-part ss (part x s)) e) as (λ _. OnWay test x (s ∷ ss)) [
    | inl y ↦ record { before = []; next = s; after = ss; in_order = refl; tree = x; is_there = refl; passes_here = y }
    | inr n ↦ (
        let i = part-there ss (part x s) n in
        let w = way-told i.0 ss i.2 in
        record { before = s ∷ w.before; next = w.next; after = w.after; in_order = ap (λ l. s ∷ l) w.in_order; tree = w.tree; is_there = ap (option_and_then (λ y. below y w.before)) i.1 ∙ w.is_there; passes_here = w.passes_here })
  ]

  way-at : (x y : Tree) (before after : List Step) (s : Step) → below x before ≡ Some y → test (y, s) ≡ true → list_any test (on_way x (before ++ s ∷ after)) ≡ true
  way-at x y [] after s b e = or_left (test (x, s)) (from-part after (part x s)) (ap (λ z. test (z, s)) (some_inj x y b) ∙ e)
  way-at x y (u ∷ before) after s b e =
      let i = option_and_then-some (λ z. below z before) (part x u) y b in
      or_right (test (x, u)) (from-part (before ++ s ∷ after) (part x u)) (ap (from-part (before ++ s ∷ after)) i.1 ∙ way-at i.0 y before after s i.2 e)

  pub way-tells : (x : Tree) (ss : List Step) → OnWay test x ss → list_any test (on_way x ss) ≡ true
  way-tells x ss w = ap (λ l. list_any test (on_way x l)) w.in_order ∙ way-at x w.tree w.before w.after w.next w.is_there w.passes_here

module _ (t : Tables) where
  abbrev from-row : List Step → Option Tree → Option TypeRow → Bool
  from-row ss o row = unwrap_or (option_and_then (λ (q : TypeRow). option_map (λ y. sealed t q y ss) o) row) false

  row-there : (ss : List Step) (o : Option Tree) (row : Option TypeRow) → from-row ss o row ≡ true → (q : TypeRow) × (y : Tree) × (row ≡ Some q) × (o ≡ Some y) × (sealed t q y ss ≡ true)
  row-there ss None None e = absurd (cc)
  row-there ss None (Some q) e = absurd (cc)
  row-there ss (Some y) None e = absurd (cc)
  row-there ss (Some y) (Some q) e = (q, y, refl, refl, e)

  pub sealed-told : (r : TypeRow) (x : Tree) (ss : List Step) → sealed t r x ss ≡ true → SealedOnWay t r x ss
  sealed-told r x [] e = record { before = []; after = []; in_order = refl; row = r; is_row = refl; tree = x; is_there = refl; sealed_here = e }
  sealed-told r x (s ∷ ss) e = elim (or_cases (is_sealed r x) (from-row ss (part x s) (row_part t r s)) e) as (λ _. SealedOnWay t r x (s ∷ ss)) [
    | inl y ↦ record { before = []; after = s ∷ ss; in_order = refl; row = r; is_row = refl; tree = x; is_there = refl; sealed_here = y }
    | inr n ↦ (
        let i = row-there ss (part x s) (row_part t r s) n in
        let w = sealed-told i.0 i.1 ss i.4 in
        record {
          before = s ∷ w.before;
          after = w.after;
          in_order = ap (λ l. s ∷ l) w.in_order;
          row = w.row;
          is_row = ap (option_and_then (λ (q : TypeRow). row_below t q w.before)) i.2 ∙ w.is_row;
          tree = w.tree;
          is_there = ap (option_and_then (λ y. below y w.before)) i.3 ∙ w.is_there;
          sealed_here = w.sealed_here;
        })
  ]

  sealed-here : (r : TypeRow) (x : Tree) (ss : List Step) → is_sealed r x ≡ true → sealed t r x ss ≡ true
  sealed-here r x [] e = e
  sealed-here r x (s ∷ ss) e = or_left (is_sealed r x) (from-row ss (part x s) (row_part t r s)) e

  sealed-at : (r q : TypeRow) (x y : Tree) (before after : List Step) → row_below t r before ≡ Some q → below x before ≡ Some y → is_sealed q y ≡ true → sealed t r x (before ++ after) ≡ true
  sealed-at r q x y [] after a b e = sealed-here r x after (ap (λ w. is_sealed w x) (some_inj r q a) ∙ ap (is_sealed q) (some_inj x y b) ∙ e)
  sealed-at r q x y (u ∷ before) after a b e =
      let i = option_and_then-some (λ (w : TypeRow). row_below t w before) (row_part t r u) q a in
      let j = option_and_then-some (λ z. below z before) (part x u) y b in
      or_right (is_sealed r x) (from-row (before ++ after) (part x u) (row_part t r u))
      (ap (λ o. from-row (before ++ after) o (row_part t r u)) j.1 ∙ ap (from-row (before ++ after) (Some j.0)) i.1 ∙ sealed-at i.0 q j.0 y before after i.2 j.2 e)

  pub sealed-tells : (r : TypeRow) (x : Tree) (ss : List Step) → SealedOnWay t r x ss → sealed t r x ss ≡ true
  sealed-tells r x ss w = ap (sealed t r x) w.in_order ∙ sealed-at r w.row x w.tree w.before w.after w.is_row w.is_there w.sealed_here
