-- The tables are sound, by what they keep.
use Rattle.std.proofs.Common.{◌≡◌, ℕ, ◌<◌, ◌≤◌, List, length, Option, None, Some, refl, sym, subst, ◌∙◌, slice_get, arith}
use Rattle.cx_type_defs.specs.declared.ids.TypeId.{TypeId}
use Rattle.cx_type_defs.specs.declared.ids.ClassId.{ClassId}
use Rattle.cx_type_defs.specs.declared.ids.FuncId.{FuncId}
use Rattle.cx_type_defs.specs.declared.kind.TypeRow.{TypeRow}
use Rattle.cx_type_defs.specs.declared.kind.TypeKind.{TypeKind}
use Rattle.cx_type_defs.specs.declared.kind.TypeKind.TheVariants as kind
use Rattle.cx_type_defs.specs.declared.decl.ClassDecl.{ClassDecl}
use Rattle.cx_type_defs.specs.declared.decl.ClassBody.{ClassBody}
use Rattle.cx_type_defs.specs.declared.decl.Field.{Field}
use Rattle.cx_types.specs.declared.facts.Facts.{Facts}
use Rattle.cx_types.specs.declared.facts.RowFacts.{RowFacts}
use Rattle.cx_types.specs.declared.facts.Measure.{Measure}
use Rattle.cx_type_defs.specs.Tables.{Tables, body_at}
use Rattle.cx_type_defs.specs.Slots.{base_slots}
use Rattle.cx_type_defs.specs.Questions.{Question, Part, OfType, OfClass, asked, depth_of, cells_of, nodes_of, extent_of}
use Rattle.cx_type_defs.specs.Sound.{Sound, IsMeasured, HasBody}
use Rattle.cx_types.specs.Kept.{Told, Small, KeptClass, KeptBody, Kept, AllKept, StaysFit, IsNoClass}
use Rattle.cx_type_defs.proofs.Lists.{some_inj, some-is, option_value, option_and_then-some, joined-some, each-at, slice_get-within, within-slice_get}
use Rattle.cx_type_defs.proofs.Looking.{Grows-same}
use Rattle.cx_type_defs.proofs.Asked.{asked-depth, asked-stands, asked-has_body, asked-by_body}
use Rattle.cx_types.proofs.Rows.{asked-type_class}
use Rattle.cx_types.proofs.Slots.{bases-within}

-- what is told of a part, within the limits
record Measures (t : Tables) (p : Part) : Type 0 where
  facts : Facts
  told : Told t p facts
  small : Small facts

measured : (t : Tables) (p : Part) → Measures t p → IsMeasured t p
measured t p m = record {
  levels_known = some-is (asked depth_of t p) m.facts.depth m.told.depth_told;
  cells_known = some-is (asked cells_of t p) m.facts.cells m.told.cells_told;
  nodes_known = some-is (asked nodes_of t p) m.facts.nodes m.told.nodes_told;
  literal_known = some-is _ m.facts.literal m.told.literal_told;
}

module _ (t : Tables) (rf : List RowFacts) (ms : List (Option Measure)) (h : Kept t rf ms) where
  row-measures : (id : TypeId) (r : TypeRow) → slice_get t.rows id.0 ≡ Some r → IsNoClass r.kind → Measures t (OfType id)
  row-measures id r at n =
      let less = within-slice_get t.rows id.0 r at in
      let same = h.each_row in
      let f = slice_get-within rf id.0 (omega arith) in
      let kept = h.rows_kept id r f.0 at f.1 n in
      record { facts = f.0.facts; told = (kept.later t (Grows-same t)).told; small = kept.small }

  class-kept : (c : ClassId) (b : ClassBody) → body_at t c ≡ Some b → (m : Measure) × KeptBody t c b m
  class-kept c b is =
      let d = option_and_then-some (λ (w : ClassDecl). w.body) (slice_get t.classes c.0) b is in
      let less = within-slice_get t.classes c.0 d.0 d.1 in
      let same = h.each_class in
      let m = slice_get-within ms c.0 (omega arith) in
      of m.0 (subst (λ o. KeptClass t c o m.0) d.2 (h.classes_kept c d.0 m.0 d.1 m.1))
    where
      of : (o : Option Measure) → KeptClass t c (Some b) o → (m : Measure) × KeptBody t c b m
      of None k = absurd k
      of (Some m) k = (m, k)

  class-measures : (c : ClassId) (b : ClassBody) → body_at t c ≡ Some b → Measures t (OfClass c)
  class-measures c b is =
      let k = class-kept c b is in
      record { facts = k.0.facts; told = (k.1.later t (Grows-same t)).told; small = k.1.small }

  -- a row of a class is measured as the class is
  of-class : (id : TypeId) (r : TypeRow) (c : ClassId) → slice_get t.rows id.0 ≡ Some r → r.kind ≡ kind.Class c → Measures t (OfClass c) → Measures t (OfType id)
  of-class id r c at is m = record {
    facts = m.facts;
    told = record {
      depth_told = asked-type_class _ t id r c at is ∙ m.told.depth_told;
      cells_told = asked-type_class _ t id r c at is ∙ m.told.cells_told;
      nodes_told = asked-type_class _ t id r c at is ∙ m.told.nodes_told;
      literal_told = asked-type_class _ t id r c at is ∙ m.told.literal_told;
    };
    small = m.small;
  }

  type-measures : (id : TypeId) (r : TypeRow) → slice_get t.rows id.0 ≡ Some r → HasBody t r.kind → Measures t (OfType id)
  type-measures id r at has = of r.kind refl has
    where
      of : (k : TypeKind) → r.kind ≡ k → HasBody t k → Measures t (OfType id)
      of (kind.Class c) is b = let x = option_value (body_at t c) b in of-class id r c at is (class-measures c x.0 x.1)
      of kind.Void is b = row-measures id r at (subst IsNoClass (sym is) tt)
      of kind.Nullptr is b = row-measures id r at (subst IsNoClass (sym is) tt)
      of (kind.Int _) is b = row-measures id r at (subst IsNoClass (sym is) tt)
      of (kind.Enum _) is b = row-measures id r at (subst IsNoClass (sym is) tt)
      of (kind.Pointer _) is b = row-measures id r at (subst IsNoClass (sym is) tt)
      of (kind.Reference _) is b = row-measures id r at (subst IsNoClass (sym is) tt)
      of (kind.Array _ _) is b = row-measures id r at (subst IsNoClass (sym is) tt)

  -- what has an answer is measured
  part-measures : {R : Type 0} (q : Question R) (p : Part) (r : R) → asked q t p ≡ Some r → Measures t p
  part-measures q (OfClass c) r e = let b = asked-has_body q t c r e in class-measures c b.0 b.1
  part-measures {R} q (OfType id) r e =
      let w = asked-stands q t id r e in
      type-measures id w.0 w.1 (of w.0 w.1 w.0.kind refl)
    where
      of : (w : TypeRow) → slice_get t.rows id.0 ≡ Some w → (k : TypeKind) → w.kind ≡ k → HasBody t k
      of w at (kind.Class c) is = let b = asked-has_body q t c r (sym (asked-type_class q t id w c at is) ∙ e) in some-is (body_at t c) b.0 b.1
      of w at kind.Void is = tt
      of w at kind.Nullptr is = tt
      of w at (kind.Int _) is = tt
      of w at (kind.Enum _) is = tt
      of w at (kind.Pointer _) is = tt
      of w at (kind.Reference _) is = tt
      of w at (kind.Array _ _) is = tt

  few-cells : (p : Part) (n : ℕ) → asked cells_of t p ≡ Some n → n ≤ 1073741824
  few-cells p n e =
      let m = part-measures cells_of p n e in
      let same = some_inj n m.facts.cells (sym e ∙ m.told.cells_told) in
      let few = m.small.few_cells in
      omega arith

  few-nodes : (p : Part) (n : ℕ) → asked nodes_of t p ≡ Some n → n ≤ 1048576
  few-nodes p n e =
      let m = part-measures nodes_of p n e in
      let same = some_inj n m.facts.nodes (sym e ∙ m.told.nodes_told) in
      let few = m.small.few_nodes in
      omega arith

  class-extended : (c : ClassId) (b : ClassBody) → body_at t c ≡ Some b → (m : Measure) × (asked extent_of t (OfClass c) ≡ Some m.extent)
  class-extended c b is = let k = class-kept c b is in (k.0, (k.1.later t (Grows-same t)).extent_told)

  -- the parts that a complete class names have extents, or are known to have none
  base-extent : (c : ClassId) (b : ClassBody) (i : ℕ) (base : ClassId) → body_at t c ≡ Some b → slice_get b.bases i ≡ Some base → (x : Option _) × (asked extent_of t (OfClass base) ≡ Some x)
  base-extent c b i base is at =
      let x = class-extended c b is in
      let m = class-measures c b is in
      let y = asked-by_body extent_of t c b m.facts.depth x.0.extent is m.told.depth_told x.1 in
      let z = joined-some _ _ _ x.0.extent y.1 in
      each-at (λ w. asked extent_of t (OfClass w)) b.bases z.0 z.2 i base at

  field-extent : (c : ClassId) (b : ClassBody) (i : ℕ) (f : Field) → body_at t c ≡ Some b → slice_get b.fields i ≡ Some f → (x : Option _) × (asked extent_of t (OfType f.ty) ≡ Some x)
  field-extent c b i f is at =
      let x = class-extended c b is in
      let m = class-measures c b is in
      let y = asked-by_body extent_of t c b m.facts.depth x.0.extent is m.told.depth_told x.1 in
      let z = joined-some _ _ _ x.0.extent y.1 in
      each-at (λ (w : Field). asked extent_of t (OfType w.ty)) b.fields z.1 z.3 i f at

slots-of : (t : Tables) (rf : List RowFacts) (ms : List (Option Measure)) (ps : List FuncId) → AllKept t rf ms ps → (c : ClassId) (b : ClassBody) → body_at t c ≡ Some b → (base_slots t b ≤ length b.slots) × (length b.slots < 4294967296)
slots-of t rf ms ps h c b is =
    let d = option_and_then-some (λ (w : ClassDecl). w.body) (slice_get t.classes c.0) b is in
    bases-within t d.0.body b (h.slots_kept c d.0 d.1) d.2

pub sound-kept : (t : Tables) (rf : List RowFacts) (ms : List (Option Measure)) (ps : List FuncId) → AllKept t rf ms ps → Sound t
sound-kept t rf ms ps all =
    let h = all.measures_kept in
    record {
      rows_known = h.known;
      parts_older = h.older;
      one_id = h.once;
      rows_normal = h.normal;
      bases_known = λ c b i base is at.
          let x = base-extent t rf ms h c b i base is at in
          let y = asked-has_body extent_of t base x.0 x.1 in
          let d = option_and_then-some (λ (w : ClassDecl). w.body) (slice_get t.classes base.0) y.0 y.1 in
          within-slice_get t.classes base.0 d.0 d.1;
      bases_complete = λ c b i base is at.
          let x = base-extent t rf ms h c b i base is at in
          let y = asked-has_body extent_of t base x.0 x.1 in
          some-is (body_at t base) y.0 y.1;
      fields_known = λ c b i f is at.
          let x = field-extent t rf ms h c b i f is at in
          let w = asked-stands extent_of t f.ty x.0 x.1 in
          within-slice_get t.rows f.ty.0 w.0 w.1;
      fields_complete = λ c b i f is at. let x = field-extent t rf ms h c b i f is at in some-is (asked extent_of t (OfType f.ty)) x.0 x.1;
      types_measured = λ id r at has. measured t (OfType id) (type-measures t rf ms h id r at has);
      classes_measured = λ c has. let b = option_value (body_at t c) has in measured t (OfClass c) (class-measures t rf ms h c b.0 b.1);
      classes_extended = λ c has. let b = option_value (body_at t c) has in let x = class-extended t rf ms h c b.0 b.1 in some-is (asked extent_of t (OfClass c)) x.0.extent x.1;
      few_levels = λ p n e. (asked-depth t p n e).1;
      few_cells = few-cells t rf ms h;
      few_nodes = few-nodes t rf ms h;
      slots_cover = λ c b is. (slots-of t rf ms ps all c b is).0;
      few_slots = λ c b is. (slots-of t rf ms ps all c b is).1;
      bodies_fit = λ c d b at is. (subst (StaysFit t d.key) is (all.bodies_fit c d at)) t (Grows-same t);
      scoped_fixed = λ e d at. (all.enums_fit e d at).scoped_fixed;
      ends_fit = λ e d end at is. (all.enums_fit e d at).end_fits end is;
    }
