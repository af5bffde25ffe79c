-- The objects after a union was left without active member.
use Rattle.std.proofs.Common.{◌≡◌, ℕ, true, ◌+◌, List, [], ◌∷◌, Option, None, Some, Ok, refl, sym, ap, subst, ◌∙◌, slice_get, slice_set}
use Rattle.cx_base.specs.declared.rule.Rule.TheVariants as rule
use Rattle.cx_type_defs.proofs.Lists.{some_inj}
use Rattle.cx_type_defs.specs.declared.kind.TypeRow.{TypeRow}
use Rattle.cx_type_defs.specs.Tables.{Tables}
use Rattle.cx_state.specs.Objects as tree
use Rattle.cx_state.specs.Objects.{Tree, Trees, put}
use Rattle.cx_state.specs.Places.{row_of}
use Rattle.cx_state.specs.Conditions as on
use Rattle.cx_state.specs.Pointers.{is_union_kind}
use Rattle.cx_state.specs.Steps as steps
use Rattle.cx_state.specs.Forms.{Knows, Fit}
use Rattle.cx_state.proofs.Stepped.{Fit-deactivate}
use Rattle.cx_store.specs.Stores.{IsUnionAt}
use Rattle.cx_shapes.specs.Forms.{Form, Forms, Union, size}
use Rattle.cx_shapes.specs.Contents.{Cell, Cells, active_tree, union_tree, tree_of, trees_of}
use Rattle.cx_shapes.proofs.Numbering.{size_pos}
use Rattle.cx_records.specs.declared.place.Place.{Place}
use Rattle.cx_records.specs.declared.place.End.TheVariants as end
use Rattle.cx_records.specs.declared.record.Record.{Record}
use Rattle.cx_records.specs.declared.record.Content.{Content}
use Rattle.cx_records.specs.Records.{path_in, cell_of, cells_of, record_form, forms_in, objects_of}
use Rattle.cx_records.specs.Fits.{Fits}
use Rattle.cx_records.specs.Writes.{Puts, Written}
use Rattle.cx_records.proofs.Checking.{numbered, standing}
use Rattle.cx_records.proofs.Reading.{not_past, typed, of_row, union_form}
use Rattle.cx_records.proofs.Writing.{forms_set, rewrite, fits_rewritten, objects_put, one_cell, cell_here, Gives}

deactivated_is : (o : Option ℕ) (xs : Trees) → steps.deactivated (union_tree o xs) ≡ tree.Union
deactivated_is None xs = refl
deactivated_is (Some m) xs = go (tree.tree_at xs m)
  where
    go : (x : Option Tree) → steps.deactivated (active_tree m x) ≡ tree.Union
    go None = refl
    go (Some x) = refl

none_here : (g : Form) (ms : Forms) (c d : Cells) (b : ℕ) → g ≡ Union ms → (d b).member ≡ None → steps.deactivated (tree_of g c b) ≡ tree_of g d b
none_here g ms c d b e h =
    subst (λ x. steps.deactivated (tree_of x c b) ≡ tree_of x d b) (sym e)
    (deactivated_is (c b).member (trees_of ms c (b + 1)) ∙ ap (λ o. union_tree o (trees_of ms d (b + 1))) (sym h))

pub given_none : (t : Tables) (rs new : List Record) (live : ℕ) (p : Place) (x : Content) → ((fs : List Form) → (cell_of fs x).member ≡ None) → Fits t rs live → Knows t (objects_of rs) (path_in (forms_in rs) p) → IsUnionAt t (objects_of rs) (path_in (forms_in rs) p)
    → on.broken t (objects_of rs) (path_in (forms_in rs) p) on.Activate ≡ None → Written rs new p x → Gives t rs new live p steps.deactivated
given_none t rs new live p x none f n u b w =
    let m = numbered t rs live p f n in
    let a : p.end ≡ end.At = not_past t rs p on.Activate (rule.OutsideWrite ∷ rule.InactiveMember ∷ []) m.rec m.is_rec refl b in
    let k = standing t rs live p f n in
    let st = k.stands in
    let y = typed t rs live p k.form k.there k.dead f n a st in
    let q = union_form t k.form y.row.kind y.form (of_row (λ r. is_union_kind t r.kind ≡ true) (row_of t (objects_of rs) (path_in (forms_in rs) p)) y.row u y.is_row) in
    let r : w.rec ≡ st.rec = some_inj w.rec st.rec (sym w.is_rec ∙ st.is_rec) in
    let e : new ≡ slice_set rs p.object (rewrite st.rec w.now) = w.is_new ∙ ap (λ x. slice_set rs p.object (rewrite x w.now)) r in
    let v : Puts p.part x st.rec.contents w.now = subst (λ (y : Record). Puts p.part x y.contents w.now) r w.put in
    let fs = forms_in rs in
    let c = cells_of fs st.rec.contents in
    let d = cells_of fs w.now in
    let h = f.kept p.object st.rec st.is_rec in
    let but = one_cell c d p.part (cell_of fs x) (size (record_form st.rec)) (size k.form) (v.cells fs) (size_pos k.form) in
    record {
      objects = ap objects_of e ∙ objects_put rs p k.form k.there k.dead st w.now steps.deactivated a but (none_here k.form q.0 c d p.part q.1 (ap (λ (y : Cell). y.member) (cell_here c d p.part (cell_of fs x) (v.cells fs)) ∙ none fs));
      forms = ap forms_in e ∙ forms_set rs p.object st.rec (rewrite st.rec w.now) st.is_rec refl;
      fits = λ z. subst (λ (z : List Record). Fits t z live) (sym e) (fits_rewritten t rs live p.object st.rec w.now f st.is_rec (v.full (record_form st.rec) h.full) v.each (subst (λ (z : List Record). Fit t (objects_of z)) e z));
    }

pub deactivate_fits : (t : Tables) (rs new : List Record) (live : ℕ) (p : Place) → Fits t rs live → on.broken t (objects_of rs) (path_in (forms_in rs) p) on.Activate ≡ None → objects_of new ≡ put steps.deactivated (objects_of rs) (path_in (forms_in rs) p) → Fit t (objects_of new)
deactivate_fits t rs new live p f b e =
    let q = path_in (forms_in rs) p in
    let os = objects_of rs in
    subst (Fit t) (sym e) (Fit-deactivate t os (put steps.deactivated os q) q f.fit (ap (λ o. steps.unless o (put steps.deactivated os q)) b))
