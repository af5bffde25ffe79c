use Rattle.std.proofs.Common.{◌≡◌, ◌-◌, is_some, sym, ap, subst, ◌∙◌, arith}
use Rattle.cx_type_defs.proofs.Lists.{some_inj}
use Rattle.cx_type_defs.specs.declared.kind.TypeRow.{TypeRow}
use Rattle.cx_shapes.specs.Forms.{form_of, steps_at}
use Rattle.cx_shapes.specs.Kinds.{IsForm}
use Rattle.cx_shapes.specs.Ways.{way_seen}
use Rattle.cx_records.proofs.Sealing.{row_there}
use Rattle.cx_record_pointers.proofs.Enclosing.{encloses_here, encloses_more}
use Rattle.cx_record_pointers.proofs.enclose.+nearest.Goals as goal

pub returns-then-rest-eq0 : goal.returns-then-rest-eq0
returns-then-rest-eq0 t c = λ ss h.
    encloses_here c.args.types.now (form_of c.args.shape.now) c.args.row c.args.base c.args.to c.is_class-here.result c.or_here.result c.is_class-here.ensures c.or_here.ensures ss
    (sym (ap (steps_at (form_of c.args.shape.now)) c.if-rest-eq0.true) ∙ h)

pub part_row-part-requires : goal.part_row-part-requires
part_row-part-requires t c =
    let x = row_there c.args.types.now (form_of c.args.shape.now) c.args.row (c.args.rest - 1) (way_seen c.in-Some.way) c.requires.form (sym c.in-Some.ensures.gives) in ap is_some x.1

pub nearest-inner-requires : goal.nearest-inner-requires
nearest-inner-requires t c =
    let x = row_there c.args.types.now (form_of c.args.shape.now) c.args.row (c.args.rest - 1) (way_seen c.in-Some.way) c.requires.form (sym c.in-Some.ensures.gives) in
    let l = c.in-Some.ensures.leads in
    let a = l.behind in
    let b = l.from in
    let few = c.requires.few in
    let e : x.0 ≡ c.part_row-part.result = some_inj x.0 c.part_row-part.result (sym x.1 ∙ c.part_row-part.ensures) in
    (omega arith, (omega arith, (c.in-Some.ensures.small, subst (λ (r : TypeRow). IsForm c.args.types.now (form_of c.in-Some.way.shape.now) r.kind) e x.2)))

pub returns-in-Some : goal.returns-in-Some
returns-in-Some t c =
    encloses_more c.args.types.now (form_of c.args.shape.now) c.args.row c.part_row-part.result c.args.base c.args.rest c.args.to (way_seen c.in-Some.way)
    c.is_class-here.result c.is_base.result c.both-bases.result c.both.result c.nearest-inner.result _ (omega arith) (sym c.in-Some.ensures.gives) c.part_row-part.ensures
    c.is_class-here.ensures c.is_base.ensures c.both-bases.ensures c.both.ensures (ap (λ n. record { bases = c.both-bases.result; nearest = n }) c.or_here-in-Some.ensures) c.nearest-inner.ensures
