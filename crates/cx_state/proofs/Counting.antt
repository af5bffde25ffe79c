-- Cells, and whether one more object is made, are as before where the types grow.
use Rattle.std.proofs.Common.{◌≡◌, ℕ, suc, ◌+◌, ◌*◌, true, false, List, [], ◌∷◌, ◌++◌, map, sum, Some, refl, sym, ap, ◌∙◌, slice_get, if◌then◌else◌}
use Rattle.std.specs.Prelude.{unwrap_or, nat_lt, ◌&&◌}
use Rattle.std.specs.List.{find}
use Rattle.cx_base.specs.declared.rule.Rule.{Rule}
use Rattle.cx_base.specs.declared.rule.Rule.TheVariants as rule
use Rattle.cx_base.specs.declared.limits.Limits.{Limits}
use Rattle.cx_type_defs.specs.declared.ids.TypeId.{TypeId}
use Rattle.cx_type_defs.specs.Tables.{Tables, Grows}
use Rattle.cx_type_defs.specs.Questions.{OfType, cells_of, is_complete}
use Rattle.cx_type_defs.proofs.Looking.{asked-keeps}
use Rattle.cx_state.specs.declared.kind.Phase.{Phase}
use Rattle.cx_state.specs.declared.kind.Phase.TheVariants as phase
use Rattle.cx_state.specs.Objects.{Object, Objects}
use Rattle.cx_state.specs.Steps.{unless, blank, new_in, new_tree}
use Rattle.cx_state.specs.Counts.{Request, counts, whole_tree, new_object, cells_in, is_live, live_cells, passes_limit, limit_order, make}
use Rattle.cx_state.specs.Forms.{Fit}
use Rattle.cx_state.proofs.Complete.{complete-cells, complete-tree}
use Rattle.cx_state.proofs.Passing.{AllByRecursion-always, find-same}

map-at : {A B : Type 0} (f g : A → B) (xs : List A) → ((n : ℕ) (x : A) → slice_get xs n ≡ Some x → f x ≡ g x) → map f xs ≡ map g xs
map-at f g [] h = refl
map-at f g (x ∷ xs) h = ap (λ y. y ∷ map f xs) (h 0 x refl) ∙ ap (λ ys. g x ∷ ys) (map-at f g xs (λ n y e. h (suc n) y e))

module _ (t u : Tables) (g : Grows t u) where
  cells-stay : (o : Object) → is_complete t o.ty ≡ true → cells_in u o ≡ cells_in t o
  cells-stay o e =
      let n = complete-cells t o.ty e in
      ap (λ c. unwrap_or o.count 1 * unwrap_or c 0) (asked-keeps cells_of t u g (OfType o.ty) n.0 n.1 ∙ sym n.1)

  pub live-stay : (os : Objects) → Fit t os → live_cells u os ≡ live_cells t os
  live-stay os h =
      ap sum (map-at (λ (o : Object). if is_live o then cells_in u o else 0) (λ (o : Object). if is_live o then cells_in t o else 0) os (λ n o e.
      ap (λ c. if is_live o then c else 0) (cells-stay o (h n o e).complete)))

  tree-stays : (p : Phase) (ty : TypeId) → is_complete t ty ≡ true → new_tree u p ty ≡ new_tree t p ty
  tree-stays p ty e = ap (λ o. unwrap_or o blank) (asked-keeps (new_in p) t u g (OfType ty) (new_tree t p ty) (complete-tree t p ty e))

  object-stays : (q : Request) → is_complete t q.ty ≡ true → new_object u q ≡ new_object t q
  object-stays q e = ap (λ x. record { ty = q.ty; count = q.count; kind = q.kind; konst = q.konst; birth = q.birth; released = false; counted = counts q.kind q.birth; tree = whole_tree q.count x }) (tree-stays phase.Unborn q.ty e)

  limit-stays : (limits : Limits) (os : Objects) (o : Object) → Fit t os → is_complete t o.ty ≡ true → (r : Rule) → passes_limit u limits os o r ≡ passes_limit t limits os o r
  limit-stays limits os o h e rule.LimitCells = ap (λ n. o.counted && nat_lt limits.cells (n + cells_in u o)) (live-stay os h) ∙ ap (λ n. o.counted && nat_lt limits.cells (live_cells t os + n)) (cells-stay o e)
  limit-stays limits os o h e r = refl

  pub make-stays : (limits : Limits) (os : Objects) (q : Request) → Fit t os → is_complete t q.ty ≡ true → make u limits os q ≡ make t limits os q
  make-stays limits os q h e =
      ap (λ o. unless (find (passes_limit u limits os o) limit_order) (os ++ o ∷ [])) (object-stays q e)
      ∙ ap (λ r. unless r (os ++ new_object t q ∷ [])) (find-same (passes_limit u limits os (new_object t q)) (passes_limit t limits os (new_object t q)) limit_order
      (AllByRecursion-always (λ r. passes_limit u limits os (new_object t q) r ≡ passes_limit t limits os (new_object t q) r) (limit-stays limits os (new_object t q) h e) limit_order))
