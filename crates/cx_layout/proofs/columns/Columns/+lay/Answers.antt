use Rattle.std.proofs.Common.{◌≡◌, ◌+◌, ◌*◌, ◌-◌, ◌<◌, true, false, [], ◌∷◌, ◌++◌, length, set, refl, sym, ap, subst, ◌∙◌, arith, slice_get}
use Rattle.std.specs.Prelude.{option_map, IfOk}
use Rattle.cx_type_defs.specs.declared.ids.Step.TheVariants as step
use Rattle.cx_type_defs.specs.declared.kind.TypeKind.TheVariants as kind
use Rattle.cx_type_defs.specs.Questions.{OfType}
use Rattle.cx_layout.specs.declared.columns.Kind.TheVariants as node_kind
use Rattle.cx_layout.specs.declared.columns.Under.{Under}
use Rattle.cx_layout.specs.declared.columns.Node.{Node}
use Rattle.cx_layout.specs.Forms.{Row}
use Rattle.cx_layout.specs.TypeForms.{class_form, form_in}
use Rattle.cx_layout.specs.Laid.{under}
use Rattle.cx_layout.specs.Laying.{piece_part, HasRoom, LaysForm, GroupHasRoom, LaysGroup, LaysFirst, group_forms}
use Rattle.cx_layout.proofs.Calling.{room_levels, room_known, class_open, type_open, leaf_form, element_room, array_laid, bases_asked, members_asked, sums, class_laid, pieces, piece_there, group_none, piece_asked, piece_next, piece_cells, so_small, group_all}
use Rattle.cx_layout.proofs.columns.Columns.+lay.Goals as goal

-- a part

pub lay_piece-overflow_sub-levels : goal.lay_piece-overflow_sub-levels
lay_piece-overflow_sub-levels t c = room_levels c.args.types.now c.args.self.now.nodes.items c.args.self.now.parts.items c.args.under.offset c.args.levels (piece_part c.args.piece) c.requires

pub lay_piece-lay_class-requires : goal.lay_piece-lay_class-requires
lay_piece-lay_class-requires t c =
    let h = subst (λ p. HasRoom c.args.self.now.nodes.items c.args.self.now.parts.items c.args.under.offset (form_in c.args.types.now c.args.levels (piece_part p))) c.in-Class.is c.requires in
    let l = room_levels c.args.types.now c.args.self.now.nodes.items c.args.self.now.parts.items c.args.under.offset c.args.levels (piece_part c.args.piece) c.requires in
    (omega arith, subst (HasRoom c.args.self.now.nodes.items c.args.self.now.parts.items c.args.under.offset) (class_open c.args.types.now c.args.self.now.nodes.items c.args.self.now.parts.items c.args.under.offset c.args.levels c.in-Class.class h) h)

pub lay_piece-row-requires : goal.lay_piece-row-requires
lay_piece-row-requires t c =
    let h = subst (λ p. HasRoom c.args.self.now.nodes.items c.args.self.now.parts.items c.args.under.offset (form_in c.args.types.now c.args.levels (piece_part p))) c.in-Type.is c.requires in
    room_known c.args.types.now c.args.self.now.nodes.items c.args.self.now.parts.items c.args.under.offset c.args.levels c.in-Type.ty h

pub lay_piece-overflow_sub-levels-in-Array : goal.lay_piece-overflow_sub-levels-in-Array
lay_piece-overflow_sub-levels-in-Array t c = room_levels c.args.types.now c.args.self.now.nodes.items c.args.self.now.parts.items c.args.under.offset c.args.levels (piece_part c.args.piece) c.requires

pub lay_piece-lay_array-requires : goal.lay_piece-lay_array-requires
lay_piece-lay_array-requires t c =
    let h = subst (λ p. HasRoom c.args.self.now.nodes.items c.args.self.now.parts.items c.args.under.offset (form_in c.args.types.now c.args.levels (piece_part p))) c.in-Type.is c.requires in
    let l = room_levels c.args.types.now c.args.self.now.nodes.items c.args.self.now.parts.items c.args.under.offset c.args.levels (piece_part c.args.piece) c.requires in
    (omega arith, subst (HasRoom c.args.self.now.nodes.items c.args.self.now.parts.items c.args.under.offset) (type_open c.args.types.now c.args.self.now.nodes.items c.args.self.now.parts.items c.args.under.offset c.args.levels c.in-Type.ty c.row.result (kind.Array c.in-Array.of c.in-Array.count) h c.row.ensures c.in-Array.is) h)

pub lay_piece-overflow_sub-levels-in-Class-kind : goal.lay_piece-overflow_sub-levels-in-Class-kind
lay_piece-overflow_sub-levels-in-Class-kind t c = room_levels c.args.types.now c.args.self.now.nodes.items c.args.self.now.parts.items c.args.under.offset c.args.levels (piece_part c.args.piece) c.requires

pub lay_piece-lay_class-requires-in-Class-kind : goal.lay_piece-lay_class-requires-in-Class-kind
lay_piece-lay_class-requires-in-Class-kind t c =
    let h = subst (λ p. HasRoom c.args.self.now.nodes.items c.args.self.now.parts.items c.args.under.offset (form_in c.args.types.now c.args.levels (piece_part p))) c.in-Type.is c.requires in
    let l = room_levels c.args.types.now c.args.self.now.nodes.items c.args.self.now.parts.items c.args.under.offset c.args.levels (piece_part c.args.piece) c.requires in
    (omega arith, subst (HasRoom c.args.self.now.nodes.items c.args.self.now.parts.items c.args.under.offset) (type_open c.args.types.now c.args.self.now.nodes.items c.args.self.now.parts.items c.args.under.offset c.args.levels c.in-Type.ty c.row.result (kind.Class c.in-Class-kind.class) h c.row.ensures c.in-Class-kind.is) h)

pub lay_piece-returns-in-Class : goal.lay_piece-returns-in-Class
lay_piece-returns-in-Class t c =
    let h = subst (λ p. HasRoom c.args.self.now.nodes.items c.args.self.now.parts.items c.args.under.offset (form_in c.args.types.now c.args.levels (piece_part p))) c.in-Class.is c.requires in
    subst (λ p. IfOk c.lay_class.result (λ n. LaysForm c.args.self.now.nodes.items c.args.self.now.parts.items c.lay_class.new.self.nodes.items c.lay_class.new.self.parts.items c.args.under (form_in c.args.types.now c.args.levels (piece_part p)) n)) (sym c.in-Class.is)
    (subst (λ x. IfOk c.lay_class.result (λ n. LaysForm c.args.self.now.nodes.items c.args.self.now.parts.items c.lay_class.new.self.nodes.items c.lay_class.new.self.parts.items c.args.under x n))
    (sym (class_open c.args.types.now c.args.self.now.nodes.items c.args.self.now.parts.items c.args.under.offset c.args.levels c.in-Class.class h)) c.lay_class.ensures)

pub lay_piece-returns-in-Array : goal.lay_piece-returns-in-Array
lay_piece-returns-in-Array t c =
    let h = subst (λ p. HasRoom c.args.self.now.nodes.items c.args.self.now.parts.items c.args.under.offset (form_in c.args.types.now c.args.levels (piece_part p))) c.in-Type.is c.requires in
    subst (λ p. IfOk c.lay_array.result (λ n. LaysForm c.args.self.now.nodes.items c.args.self.now.parts.items c.lay_array.new.self.nodes.items c.lay_array.new.self.parts.items c.args.under (form_in c.args.types.now c.args.levels (piece_part p)) n)) (sym c.in-Type.is)
    (subst (λ x. IfOk c.lay_array.result (λ n. LaysForm c.args.self.now.nodes.items c.args.self.now.parts.items c.lay_array.new.self.nodes.items c.lay_array.new.self.parts.items c.args.under x n))
    (sym (type_open c.args.types.now c.args.self.now.nodes.items c.args.self.now.parts.items c.args.under.offset c.args.levels c.in-Type.ty c.row.result (kind.Array c.in-Array.of c.in-Array.count) h c.row.ensures c.in-Array.is)) c.lay_array.ensures)

pub lay_piece-returns-in-Class-kind : goal.lay_piece-returns-in-Class-kind
lay_piece-returns-in-Class-kind t c =
    let h = subst (λ p. HasRoom c.args.self.now.nodes.items c.args.self.now.parts.items c.args.under.offset (form_in c.args.types.now c.args.levels (piece_part p))) c.in-Type.is c.requires in
    subst (λ p. IfOk c.lay_class-in-Class-kind.result (λ n. LaysForm c.args.self.now.nodes.items c.args.self.now.parts.items c.lay_class-in-Class-kind.new.self.nodes.items c.lay_class-in-Class-kind.new.self.parts.items c.args.under (form_in c.args.types.now c.args.levels (piece_part p)) n)) (sym c.in-Type.is)
    (subst (λ x. IfOk c.lay_class-in-Class-kind.result (λ n. LaysForm c.args.self.now.nodes.items c.args.self.now.parts.items c.lay_class-in-Class-kind.new.self.nodes.items c.lay_class-in-Class-kind.new.self.parts.items c.args.under x n))
    (sym (type_open c.args.types.now c.args.self.now.nodes.items c.args.self.now.parts.items c.args.under.offset c.args.levels c.in-Type.ty c.row.result (kind.Class c.in-Class-kind.class) h c.row.ensures c.in-Class-kind.is)) c.lay_class-in-Class-kind.ensures)

pub lay_piece-returns-in_default : goal.lay_piece-returns-in_default
lay_piece-returns-in_default t c =
    let h = subst (λ p. HasRoom c.args.self.now.nodes.items c.args.self.now.parts.items c.args.under.offset (form_in c.args.types.now c.args.levels (piece_part p))) c.in-Type.is c.requires in
    let e = type_open c.args.types.now c.args.self.now.nodes.items c.args.self.now.parts.items c.args.under.offset c.args.levels c.in-Type.ty c.row.result c.row.result.kind h c.row.ensures refl in
    let f = leaf_form c.args.types.now c.args.self.now.nodes.items c.args.self.now.parts.items c.args.under.offset (c.args.levels - 1) c.row.result.kind c.in_default.not-Array c.in_default.not-Class (subst (HasRoom c.args.self.now.nodes.items c.args.self.now.parts.items c.args.under.offset) e h) in
    subst (λ p. IfOk c.lay_scalar.result (λ n. LaysForm c.args.self.now.nodes.items c.args.self.now.parts.items c.lay_scalar.new.self.nodes.items c.lay_scalar.new.self.parts.items c.args.under (form_in c.args.types.now c.args.levels (piece_part p)) n)) (sym c.in-Type.is)
    (subst (λ x. IfOk c.lay_scalar.result (λ n. LaysForm c.args.self.now.nodes.items c.args.self.now.parts.items c.lay_scalar.new.self.nodes.items c.lay_scalar.new.self.parts.items c.args.under x n)) (sym (e ∙ f)) c.lay_scalar.ensures)

-- an array

pub lay_array-lay_piece-requires : goal.lay_array-lay_piece-requires
lay_array-lay_piece-requires t c = (
  omega arith,
  subst (λ ns. HasRoom ns c.args.self.now.parts.items 0 (form_in c.args.types.now c.args.levels (OfType c.args.of))) (sym c.in_ok-push.ensures.ok)
      (element_room c.args.self.now.nodes.items c.args.self.now.parts.items c.args.under.offset c.args.count (form_in c.args.types.now c.args.levels (OfType c.args.of)) c.open_node.result c.requires),
)

pub lay_array-returns : goal.lay_array-returns
lay_array-returns t c =
    let ns = c.args.self.now.nodes.items in
    let ks = c.args.self.now.parts.items in
    let ms = c.lay_piece.new.self.nodes.items in
    let js = c.lay_piece.new.self.parts.items in
    let x = form_in c.args.types.now c.args.levels (OfType c.args.of) in
    let n : length ns ≡ c.len-node.result = sym (c.len-node.ensures ∙ c.args.self.now.nodes.ok.0) in
    let filled : Node = record { kind = node_kind.Array c.args.count; cells = c.args.count * c.in_ok-cells.field-0; bases_from = 0; members_from = 0; under = c.args.under } in
    let a : LaysForm (ns ++ c.open_node.result ∷ []) ks ms js (under c.len-node.result (step.Elem 0) 0) x c.in_ok-cells.field-0 = subst (λ l. LaysForm l ks ms js (under c.len-node.result (step.Elem 0) 0) x c.in_ok-cells.field-0) c.in_ok-push.ensures.ok c.in_ok-cells.ensures in
    let b : LaysForm (ns ++ c.open_node.result ∷ []) ks ms js (under (length ns) (step.Elem 0) 0) x c.in_ok-cells.field-0 = subst (λ m. LaysForm (ns ++ c.open_node.result ∷ []) ks ms js (under m (step.Elem 0) 0) x c.in_ok-cells.field-0) (sym n) a in
    subst (λ m. LaysForm ns ks (set ms m filled) js c.args.under (option_map (Row c.args.count) x) (c.args.count * c.in_ok-cells.field-0)) n
    (array_laid ns ks c.args.under.offset c.args.count x c.open_node.result filled ms js c.args.under c.in_ok-cells.field-0 c.requires b refl refl refl)

-- the parts of a class

pub lay_group-overflow_cast-len : goal.lay_group-overflow_cast-len
lay_group-overflow_cast-len t c =
    let s = so_small c.args.types.now c.args.levels c.args.self.now.nodes.items c.args.self.now.parts.items c.args.starts.now.items c.args.group c.requires c.loop-i.i c.loop-i.cells c.loop-i.self.nodes.items c.loop-i.self.parts.items c.loop-i.starts.items c.loop-i.invariant in
    let a = s.1 in
    let n : c.len.result ≡ length c.loop-i.self.nodes.items = c.len.ensures ∙ c.loop-i.self.nodes.ok.0 in
    omega arith

pub lay_group-piece_at-piece-requires : goal.lay_group-piece_at-piece-requires
lay_group-piece_at-piece-requires t c =
    let k : c.loop-i.i < c.args.group.count = omega arith in
    let p = pieces c.args.types.now c.args.levels c.args.self.now.nodes.items c.args.self.now.parts.items c.args.starts.now.items c.args.group c.requires in
    (p.0, p.1, piece_there c.args.types.now c.args.levels c.args.self.now.nodes.items c.args.self.now.parts.items c.args.starts.now.items c.args.group c.requires c.loop-i.i k)

pub lay_group-under-under-requires : goal.lay_group-under-under-requires
lay_group-under-under-requires t c =
    let s = so_small c.args.types.now c.args.levels c.args.self.now.nodes.items c.args.self.now.parts.items c.args.starts.now.items c.args.group c.requires c.loop-i.i c.loop-i.cells c.loop-i.self.nodes.items c.loop-i.self.parts.items c.loop-i.starts.items c.loop-i.invariant in
    let a = s.0 in
    omega arith

pub lay_group-lay_piece-requires : goal.lay_group-lay_piece-requires
lay_group-lay_piece-requires t c =
    let k : c.loop-i.i < c.args.group.count = omega arith in
    let p = pieces c.args.types.now c.args.levels c.args.self.now.nodes.items c.args.self.now.parts.items c.args.starts.now.items c.args.group c.requires in (
      omega arith,
      subst (λ (u : Under). HasRoom c.loop-i.self.nodes.items c.loop-i.self.parts.items u.offset (form_in c.args.types.now c.args.levels (piece_part c.piece_at-piece.result))) (sym c.under-under.ensures)
          (piece_asked c.args.types.now c.args.levels c.args.self.now.nodes.items c.args.self.now.parts.items c.args.starts.now.items c.args.group c.requires c.loop-i.i c.loop-i.cells c.loop-i.self.nodes.items c.loop-i.self.parts.items c.loop-i.starts.items (piece_part c.piece_at-piece.result) k c.loop-i.invariant (c.piece_at-piece.ensures p.0 p.1)),
    )

pub lay_group-joined-cells-requires : goal.lay_group-joined-cells-requires
lay_group-joined-cells-requires t c =
    let k : c.loop-i.i < c.args.group.count = omega arith in
    let p = pieces c.args.types.now c.args.levels c.args.self.now.nodes.items c.args.self.now.parts.items c.args.starts.now.items c.args.group c.requires in
    let s = so_small c.args.types.now c.args.levels c.args.self.now.nodes.items c.args.self.now.parts.items c.args.starts.now.items c.args.group c.requires c.loop-i.i c.loop-i.cells c.loop-i.self.nodes.items c.loop-i.self.parts.items c.loop-i.starts.items c.loop-i.invariant in
    let a = s.0 in
    let m = subst (λ u. LaysForm c.loop-i.self.nodes.items c.loop-i.self.parts.items c.lay_piece.new.self.nodes.items c.lay_piece.new.self.parts.items u (form_in c.args.types.now c.args.levels (piece_part c.piece_at-piece.result)) c.in_ok-one.one) c.under-under.ensures c.in_ok-one.ensures in
    let d = piece_cells c.args.types.now c.args.levels c.args.self.now.nodes.items c.args.self.now.parts.items c.args.starts.now.items c.args.group c.requires c.loop-i.i c.loop-i.cells c.loop-i.self.nodes.items c.loop-i.self.parts.items c.loop-i.starts.items (piece_part c.piece_at-piece.result) k c.loop-i.invariant (c.piece_at-piece.ensures p.0 p.1)
    c.lay_piece.new.self.nodes.items c.lay_piece.new.self.parts.items c.in_ok-one.one m in
    omega arith

pub lay_group-loop-i-preserved : goal.lay_group-loop-i-preserved
lay_group-loop-i-preserved t c =
    let k : c.loop-i.i < c.args.group.count = omega arith in
    let p = pieces c.args.types.now c.args.levels c.args.self.now.nodes.items c.args.self.now.parts.items c.args.starts.now.items c.args.group c.requires in
    let m = subst (λ u. LaysForm c.loop-i.self.nodes.items c.loop-i.self.parts.items c.lay_piece.new.self.nodes.items c.lay_piece.new.self.parts.items u (form_in c.args.types.now c.args.levels (piece_part c.piece_at-piece.result)) c.in_ok-one.one) c.under-under.ensures c.in_ok-one.ensures in
    let a = piece_next c.args.types.now c.args.levels c.args.self.now.nodes.items c.args.self.now.parts.items c.args.starts.now.items c.args.group c.requires c.loop-i.i c.loop-i.cells c.loop-i.self.nodes.items c.loop-i.self.parts.items c.loop-i.starts.items (piece_part c.piece_at-piece.result) k c.loop-i.invariant (c.piece_at-piece.ensures p.0 p.1)
    c.lay_piece.new.self.nodes.items c.lay_piece.new.self.parts.items c.in_ok-one.one m in
    let n : length c.loop-i.self.nodes.items ≡ c.len.result = sym (c.len.ensures ∙ c.loop-i.self.nodes.ok.0) in
    let s : c.loop-i.starts.items ++ length c.loop-i.self.nodes.items ∷ [] ≡ c.push.new.items.items = ap (λ x. c.loop-i.starts.items ++ x ∷ []) n ∙ sym c.in_ok-push.ensures.ok in
    subst (λ us. LaysFirst (c.loop-i.i + 1) c.args.self.now.nodes.items c.args.self.now.parts.items c.args.starts.now.items c.lay_piece.new.self.nodes.items c.lay_piece.new.self.parts.items us c.args.group (group_forms c.args.types.now c.args.levels c.args.group.class c.args.group.of_bases) c.joined-cells.result) s
    (subst (λ d. LaysFirst (c.loop-i.i + 1) c.args.self.now.nodes.items c.args.self.now.parts.items c.args.starts.now.items c.lay_piece.new.self.nodes.items c.lay_piece.new.self.parts.items (c.loop-i.starts.items ++ length c.loop-i.self.nodes.items ∷ []) c.args.group (group_forms c.args.types.now c.args.levels c.args.group.class c.args.group.of_bases) d) (sym c.joined-cells.ensures) a)

pub lay_group-loop-i-init : goal.lay_group-loop-i-init
lay_group-loop-i-init t c = group_none c.args.types.now c.args.levels c.args.self.now.nodes.items c.args.self.now.parts.items c.args.starts.now.items c.args.group c.requires

pub lay_group-returns : goal.lay_group-returns
lay_group-returns t c = group_all c.args.types.now c.args.levels c.args.self.now.nodes.items c.args.self.now.parts.items c.args.starts.now.items c.args.group c.requires c.loop-i.i c.loop-i.cells c.loop-i.self.nodes.items c.loop-i.self.parts.items c.loop-i.starts.items (omega arith) c.loop-i.invariant

-- a class

pub lay_class-lay_group-requires : goal.lay_class-lay_group-requires
lay_class-lay_group-requires t c =
    let ns = c.args.self.now.nodes.items in
    let ks = c.args.self.now.parts.items in
    let n : length ns ≡ c.len-node.result = sym (c.len-node.ensures ∙ c.args.self.now.nodes.ok.0) in
    let a = bases_asked c.args.types.now c.args.levels c.args.class c.class_parts-parts.result ns ks c.args.under.offset c.open_node.result c.requires c.class_parts-parts.ensures in (
      omega arith,
      subst (λ m. GroupHasRoom c.push.new.items.items ks (record { class = c.args.class; node = m; of_bases = true; shared = false; count = c.class_parts-parts.result.bases; offset = 1 }) (group_forms c.args.types.now c.args.levels c.args.class true)) n
          (subst (λ xs. GroupHasRoom xs ks (record { class = c.args.class; node = length ns; of_bases = true; shared = false; count = c.class_parts-parts.result.bases; offset = 1 }) (group_forms c.args.types.now c.args.levels c.args.class true)) (sym c.in_ok-push.ensures.ok) a),
    )

pub lay_class-lay_group-requires-2 : goal.lay_class-lay_group-requires-2
lay_class-lay_group-requires-2 t c =
    let ns = c.args.self.now.nodes.items in
    let ks = c.args.self.now.parts.items in
    let p = c.class_parts-parts.result in
    let c1 = c.in_ok-base_cells.base_cells in
    let ns2 = c.lay_group.new.self.nodes.items in
    let ks2 = c.lay_group.new.self.parts.items in
    let js2 = c.lay_group.new.starts.items in
    let fs = group_forms c.args.types.now c.args.levels c.args.class true in
    let n : length ns ≡ c.len-node.result = sym (c.len-node.ensures ∙ c.args.self.now.nodes.ok.0) in
    let g : LaysGroup (ns ++ c.open_node.result ∷ []) ks [] ns2 ks2 js2 (record { class = c.args.class; node = length ns; of_bases = true; shared = false; count = p.bases; offset = 1 }) fs c1 =
    subst (λ m. LaysGroup (ns ++ c.open_node.result ∷ []) ks [] ns2 ks2 js2 (record { class = c.args.class; node = m; of_bases = true; shared = false; count = p.bases; offset = 1 }) fs c1) (sym n)
    (subst (λ xs. LaysGroup xs ks [] ns2 ks2 js2 (record { class = c.args.class; node = c.len-node.result; of_bases = true; shared = false; count = p.bases; offset = 1 }) fs c1) c.in_ok-push.ensures.ok
    (subst (λ js. LaysGroup c.push.new.items.items ks js ns2 ks2 js2 (record { class = c.args.class; node = c.len-node.result; of_bases = true; shared = false; count = p.bases; offset = 1 }) fs c1) c.new-starts.ensures.items c.in_ok-base_cells.ensures)) in
    let a = members_asked c.args.types.now c.args.levels c.args.class p ns ks c.args.under.offset c.open_node.result c.requires c.class_parts-parts.ensures ns2 ks2 js2 c1 g in
    (omega arith, subst (λ m. GroupHasRoom ns2 ks2 (record { class = c.args.class; node = m; of_bases = false; shared = p.is_union; count = p.members; offset = 1 + c1 }) (group_forms c.args.types.now c.args.levels c.args.class false)) n a)

pub lay_class-overflow_add-bases_from : goal.lay_class-overflow_add-bases_from
lay_class-overflow_add-bases_from t c =
    let ns = c.args.self.now.nodes.items in
    let ks = c.args.self.now.parts.items in
    let p = c.class_parts-parts.result in
    let c1 = c.in_ok-base_cells.base_cells in
    let c2 = c.in_ok-member_cells.member_cells in
    let ns2 = c.lay_group.new.self.nodes.items in
    let ks2 = c.lay_group.new.self.parts.items in
    let js2 = c.lay_group.new.starts.items in
    let ns3 = c.lay_group-2.new.self.nodes.items in
    let ks3 = c.lay_group-2.new.self.parts.items in
    let js3 = c.lay_group-2.new.starts.items in
    let fs = group_forms c.args.types.now c.args.levels c.args.class true in
    let ms = group_forms c.args.types.now c.args.levels c.args.class false in
    let n : length ns ≡ c.len-node.result = sym (c.len-node.ensures ∙ c.args.self.now.nodes.ok.0) in
    let g : LaysGroup (ns ++ c.open_node.result ∷ []) ks [] ns2 ks2 js2 (record { class = c.args.class; node = length ns; of_bases = true; shared = false; count = p.bases; offset = 1 }) fs c1 =
    subst (λ m. LaysGroup (ns ++ c.open_node.result ∷ []) ks [] ns2 ks2 js2 (record { class = c.args.class; node = m; of_bases = true; shared = false; count = p.bases; offset = 1 }) fs c1) (sym n)
    (subst (λ xs. LaysGroup xs ks [] ns2 ks2 js2 (record { class = c.args.class; node = c.len-node.result; of_bases = true; shared = false; count = p.bases; offset = 1 }) fs c1) c.in_ok-push.ensures.ok
    (subst (λ js. LaysGroup c.push.new.items.items ks js ns2 ks2 js2 (record { class = c.args.class; node = c.len-node.result; of_bases = true; shared = false; count = p.bases; offset = 1 }) fs c1) c.new-starts.ensures.items c.in_ok-base_cells.ensures)) in
    let m : LaysGroup ns2 ks2 js2 ns3 ks3 js3 (record { class = c.args.class; node = length ns; of_bases = false; shared = p.is_union; count = p.members; offset = 1 + c1 }) ms c2 =
    subst (λ k. LaysGroup ns2 ks2 js2 ns3 ks3 js3 (record { class = c.args.class; node = k; of_bases = false; shared = p.is_union; count = p.members; offset = 1 + c1 }) ms c2) (sym n) c.in_ok-member_cells.ensures in
    let s = sums c.args.types.now c.args.levels c.args.class p ns ks c.args.under.offset c.open_node.result c.requires c.class_parts-parts.ensures ns2 ks2 js2 c1 g ns3 ks3 js3 c2 m in
    let a = s.1 in
    let b : c.len-bases_from.result ≡ length ks3 = c.len-bases_from.ensures ∙ c.lay_group-2.new.self.parts.ok.0 in
    omega arith

pub lay_class-returns : goal.lay_class-returns
lay_class-returns t c =
    let ns = c.args.self.now.nodes.items in
    let ks = c.args.self.now.parts.items in
    let p = c.class_parts-parts.result in
    let c1 = c.in_ok-base_cells.base_cells in
    let c2 = c.in_ok-member_cells.member_cells in
    let ns2 = c.lay_group.new.self.nodes.items in
    let ks2 = c.lay_group.new.self.parts.items in
    let js2 = c.lay_group.new.starts.items in
    let ns3 = c.lay_group-2.new.self.nodes.items in
    let ks3 = c.lay_group-2.new.self.parts.items in
    let js3 = c.lay_group-2.new.starts.items in
    let fs = group_forms c.args.types.now c.args.levels c.args.class true in
    let ms = group_forms c.args.types.now c.args.levels c.args.class false in
    let n : length ns ≡ c.len-node.result = sym (c.len-node.ensures ∙ c.args.self.now.nodes.ok.0) in
    let g : LaysGroup (ns ++ c.open_node.result ∷ []) ks [] ns2 ks2 js2 (record { class = c.args.class; node = length ns; of_bases = true; shared = false; count = p.bases; offset = 1 }) fs c1 =
    subst (λ m. LaysGroup (ns ++ c.open_node.result ∷ []) ks [] ns2 ks2 js2 (record { class = c.args.class; node = m; of_bases = true; shared = false; count = p.bases; offset = 1 }) fs c1) (sym n)
    (subst (λ xs. LaysGroup xs ks [] ns2 ks2 js2 (record { class = c.args.class; node = c.len-node.result; of_bases = true; shared = false; count = p.bases; offset = 1 }) fs c1) c.in_ok-push.ensures.ok
    (subst (λ js. LaysGroup c.push.new.items.items ks js ns2 ks2 js2 (record { class = c.args.class; node = c.len-node.result; of_bases = true; shared = false; count = p.bases; offset = 1 }) fs c1) c.new-starts.ensures.items c.in_ok-base_cells.ensures)) in
    let m : LaysGroup ns2 ks2 js2 ns3 ks3 js3 (record { class = c.args.class; node = length ns; of_bases = false; shared = p.is_union; count = p.members; offset = 1 + c1 }) ms c2 =
    subst (λ k. LaysGroup ns2 ks2 js2 ns3 ks3 js3 (record { class = c.args.class; node = k; of_bases = false; shared = p.is_union; count = p.members; offset = 1 + c1 }) ms c2) (sym n) c.in_ok-member_cells.ensures in
    let b : c.len-bases_from.result ≡ length ks3 = c.len-bases_from.ensures ∙ c.lay_group-2.new.self.parts.ok.0 in
    let filled : Node = record { kind = node_kind.Class p; cells = 1 + c1 + c2; bases_from = c.len-bases_from.result; members_from = c.len-bases_from.result + p.bases; under = c.args.under } in
    let form = class_form (form_in c.args.types.now c.args.levels) c.args.class (slice_get c.args.types.now.classes c.args.class.0) in
    let a : LaysForm ns ks (set ns3 (length ns) filled) (ks3 ++ js3) c.args.under form (1 + c1 + c2) =
    class_laid c.args.types.now c.args.levels c.args.class p ns ks c.args.under.offset c.open_node.result c.requires c.class_parts-parts.ensures ns2 ks2 js2 c1 g ns3 ks3 js3 c2 m filled c.args.under refl refl refl b (ap (λ k. k + p.bases) b) in
    let e : ks3 ++ js3 ≡ c.extend_from_slice.new.self.items = ap (λ l. ks3 ++ l) (sym c.as_slice.ensures.value) ∙ sym c.in-Ok.ensures.items in
    subst (λ l. LaysForm ns ks (set ns3 c.len-node.result filled) l c.args.under form (1 + c1 + c2)) e
    (subst (λ k. LaysForm ns ks (set ns3 k filled) (ks3 ++ js3) c.args.under form (1 + c1 + c2)) n a)
