-- Objects fit as they are made, and a released one holds what its type alone tells.
use Rattle.std.proofs.Common.{◌≡◌, ℕ, zero, suc, ◌<◌, true, List, [], ◌∷◌, ◌++◌, length, Some, Ok, refl, sym, ap, subst, slice_get, arith}
use Rattle.std.specs.Prelude.{option_map, unwrap_or, ◌||◌}
use Rattle.std.specs.List.{find}
use Rattle.cx_base.specs.declared.limits.Limits.{Limits}
use Rattle.cx_type_defs.specs.declared.ids.TypeId.{TypeId}
use Rattle.cx_type_defs.specs.declared.kind.TypeRow.{TypeRow}
use Rattle.cx_type_defs.specs.Tables.{Tables}
use Rattle.cx_type_defs.specs.Questions.{OfType, asked, is_complete}
use Rattle.cx_state.specs.declared.kind.Phase.{Phase}
use Rattle.cx_state.specs.declared.kind.Phase.TheVariants as phase
use Rattle.cx_state.specs.Objects.{Tree, Objects}
use Rattle.cx_state.specs.Places.{whole_kind}
use Rattle.cx_state.specs.Steps.{blank, new_in, new_tree}
use Rattle.cx_state.specs.Counts.{Request, whole_tree, new_object, passes_limit, limit_order, make}
use Rattle.cx_state.specs.Forms.{TreeFits, ObjectFits, Fit}
use Rattle.cx_state.proofs.RowsKept.{Fit-push}
use Rattle.cx_state.proofs.NewTrees.{asked-fits, whole-fits}
use Rattle.cx_state.proofs.Complete.{complete-new}
use Rattle.cx_state.proofs.Written.{unless-ok}

-- the row of a complete type, with its new tree
pub record NewOf (t : Tables) (p : Phase) (ty : TypeId) : Type 0 where
  pub tree : Tree
  pub is_tree : asked (new_in p) t (OfType ty) ≡ Some tree
  pub row : TypeRow
  pub is_row : slice_get t.rows ty.0 ≡ Some row

pub at-within : {A : Type 0} (xs : List A) (i : ℕ) → i < length xs → (x : A) × (slice_get xs i ≡ Some x)
at-within [] i l = absurd (omega arith)
at-within (x ∷ xs) zero l = (x, refl)
at-within (x ∷ xs) (suc i) l = at-within xs i (omega arith)

pub new-of : (t : Tables) (p : Phase) (ty : TypeId) → is_complete t ty ≡ true → NewOf t p ty
new-of t p ty e =
    let x = complete-new t p ty e in
    let r = at-within t.rows ty.0 ((asked-fits t [] p).known ty x.0 x.1) in
    record { tree = x.0; is_tree = x.1; row = r.0; is_row = r.1 }

pub new_tree-is : (t : Tables) (p : Phase) (ty : TypeId) (w : NewOf t p ty) → w.tree ≡ new_tree t p ty
new_tree-is t p ty w = sym (ap (λ o. unwrap_or o blank) w.is_tree)

pub new-fits : (t : Tables) (os : Objects) (q : Request) → is_complete t q.ty ≡ true → ObjectFits t os (new_object t q)
new-fits t os q e =
    let w = new-of t phase.Unborn q.ty e in
    record {
      complete = e;
      row = record { kind = whole_kind q.count q.ty w.row.kind; konst = q.konst || w.row.konst };
      is_row = ap (option_map (λ (r : TypeRow). record { kind = whole_kind q.count q.ty r.kind; konst = q.konst || r.konst })) w.is_row;
      parts = subst (λ x. TreeFits t os (record { kind = whole_kind q.count q.ty w.row.kind; konst = q.konst || w.row.konst }) (whole_tree q.count x)) (new_tree-is t phase.Unborn q.ty w)
          (whole-fits t os phase.Unborn q.count q.ty w.row w.tree w.is_row w.is_tree (q.konst || w.row.konst));
    }

pub Fit-make : (t : Tables) (limits : Limits) (os ns : Objects) (q : Request) → Fit t os → is_complete t q.ty ≡ true → make t limits os q ≡ Ok ns → Fit t ns
Fit-make t limits os ns q h e m =
    let u = unless-ok (find (passes_limit t limits os (new_object t q)) limit_order) (os ++ new_object t q ∷ []) ns m in
    subst (Fit t) u.1 (Fit-push t os (new_object t q) h (new-fits t os q e))

pub Fit-none : (t : Tables) → Fit t []
Fit-none t n o e = absurd (cc)
