-- The extent of a type by its leaf.
use Rattle.std.proofs.Common.{◌≡◌, ℕ, ◌*◌, ◌^◌, ◌<◌, true, length, Option, None, Some, Ok, Err, refl, sym, ap, subst, ◌∙◌, slice_get, arith, if◌then◌else◌}
use Rattle.std.specs.Prelude.{option_map, is_some}
use Rattle.std.proofs.lemmas.Option.{slice_get_within}
use Rattle.cx_base.specs.declared.rule.Rule.TheVariants as rule
use Rattle.cx_type_defs.specs.declared.ids.TypeId.{TypeId}
use Rattle.cx_type_defs.specs.declared.ids.ClassId.{ClassId}
use Rattle.cx_type_defs.specs.declared.kind.TypeRow.{TypeRow}
use Rattle.cx_type_defs.specs.declared.kind.TypeKind.{TypeKind}
use Rattle.cx_type_defs.specs.declared.kind.TypeKind.TheVariants as kind
use Rattle.cx_type_defs.specs.declared.decl.ClassBody.{ClassBody}
use Rattle.cx_type_defs.specs.declared.decl.Extent.{Extent}
use Rattle.cx_types.specs.declared.facts.RowFacts.{RowFacts}
use Rattle.cx_types.specs.declared.facts.Measure.{Measure}
use Rattle.cx_type_defs.specs.Tables.{Tables, IsKnown, body_at}
use Rattle.cx_type_defs.specs.Questions.{OfType, OfClass, kind_answer, asked, cells_of, extent_of, bytes, is_complete, counted, cells_answer}
use Rattle.cx_types.specs.Kept.{KeptRow, KeptClass, IsOpen, IsLeafAt}
use Rattle.cx_type_defs.proofs.Looking.{Grows-same}
use Rattle.cx_type_defs.proofs.Asked.{asked-kind, asked-incomplete, under}
use Rattle.cx_types.proofs.Keeping.{some_at}
use Rattle.cx_types.proofs.Rows.{pointer-always, open-asked}

pub leaf-at : (t : Tables) (id : TypeId) (row : TypeRow) (k : TypeKind) → slice_get t.rows id.0 ≡ Some row → row.kind ≡ k → asked extent_of t (OfType id) ≡ kind_answer extent_of t (under extent_of t) k
leaf-at t id row k at is = asked-kind extent_of t id row at ∙ ap (kind_answer extent_of t (under extent_of t)) is

pub leaf-pointer : (t : Tables) (id to : TypeId) (row : TypeRow) → slice_get t.rows id.0 ≡ Some row → row.kind ≡ kind.Pointer to → IsKnown t row.kind → asked extent_of t (OfType id) ≡ Some (bytes 8)
leaf-pointer t id to row at is known =
    let l : to.0 < length t.rows = subst (IsKnown t) is known in
    let r = some_at t.rows to.0 l in
    leaf-at t id row (kind.Pointer to) at is ∙ pointer-always extent_of refl t (under extent_of t) to r.0 r.1

pub leaf-reference : (t : Tables) (id to : TypeId) (row : TypeRow) → slice_get t.rows id.0 ≡ Some row → row.kind ≡ kind.Reference to → IsKnown t row.kind → asked extent_of t (OfType id) ≡ Some (bytes 8)
leaf-reference t id to row at is known =
    let l : to.0 < length t.rows = subst (IsKnown t) is known in
    let r = some_at t.rows to.0 l in
    leaf-at t id row (kind.Reference to) at is ∙ pointer-always extent_of refl t (under extent_of t) to r.0 r.1

pub class-extent : (t : Tables) (c : ClassId) (o : Option ClassBody) (m : Measure) → KeptClass t c o (Some m) → asked extent_of t (OfClass c) ≡ Some m.extent
class-extent t c (Some b) m h = (h.later t (Grows-same t)).extent_told
class-extent t c None m h = absurd h

pub class-no_extent : (t : Tables) (c : ClassId) → KeptClass t c (body_at t c) None → asked extent_of t (OfClass c) ≡ None
class-no_extent t c h = asked-incomplete extent_of t c (none (body_at t c) h)
  where
    none : (o : Option ClassBody) → KeptClass t c o None → o ≡ None
    none None h = refl
    none (Some b) h = absurd h

module _ (t : Tables) (id : TypeId) (f : RowFacts) (kept : KeptRow t id f) where
  pub leaf-stands : IsLeafAt t f.leaf
  leaf-stands = (kept.later t (Grows-same t)).leaf_stands

  pub leaf-known : f.leaf.0 < length t.rows
  leaf-known = slice_get_within t.rows f.leaf.0 leaf-stands.0 leaf-stands.1

  pub spread-known : (o : Option (Option Extent)) → asked extent_of t (OfType f.leaf) ≡ o → asked extent_of t (OfType id) ≡ option_map (extent_of.of_array f.count) o
  spread-known o e = (kept.later t (Grows-same t)).spread ∙ ap (option_map (extent_of.of_array f.count)) e

  pub spread-some : (e : Extent) (n : ℕ) → n ≡ f.count → asked extent_of t (OfType f.leaf) ≡ Some (Some e) → Some (Some (record { size = n * e.size; align = e.align })) ≡ asked extent_of t (OfType id)
  spread-some e n same at = ap (λ (k : ℕ). Some (Some (record { size = k * e.size; align = e.align }))) same ∙ sym (spread-known (Some (Some e)) at)

  pub spread-fits : (e : Extent) (n : ℕ) → n ≡ f.count → asked extent_of t (OfType f.leaf) ≡ Some (Some e) → n * e.size < 2 ^ 64
  spread-fits e n same at =
      let w = (kept.later t (Grows-same t)).fits (record { size = n * e.size; align = e.align }) (sym (spread-some e n same at)) in
      let a = w.size_fits in let b = kept.small.few_cells in
      omega arith

  pub known-cells : is_complete t id ≡ true → Ok f.facts.cells ≡ cells_answer t id
  known-cells complete =
      sym (ap (λ b. if b then counted (asked cells_of t (OfType id)) else Err rule.Incomplete) complete ∙ ap counted (kept.later t (Grows-same t)).told.cells_told)

pub open-cells : (t : Tables) (id : TypeId) → IsOpen t id → Err rule.Incomplete ≡ cells_answer t id
open-cells t id h = sym (ap (λ o. if is_some o then counted (asked cells_of t (OfType id)) else Err rule.Incomplete) (open-asked extent_of t id h))
