use Rattle.std.proofs.Common.{◌≡◌, ◌-◌, ◌&&◌, is_some, sym, ap, subst, ◌∙◌, arith}
use Rattle.cx_type_defs.proofs.Lists.{some_inj}
use Rattle.cx_type_defs.specs.declared.kind.TypeRow.{TypeRow}
use Rattle.cx_shapes.specs.Forms.{form_of}
use Rattle.cx_shapes.specs.Kinds.{IsForm}
use Rattle.cx_shapes.specs.Ways.{way_seen}
use Rattle.cx_records.specs.Records.{cells_of}
use Rattle.cx_records.proofs.Sealing.{row_there, sealed_more, fast_is}
use Rattle.cx_records.proofs.seal.+sealed_at.Goals as goal

pub part_row-part-requires : goal.part_row-part-requires
part_row-part-requires t c =
    let x = row_there c.args.types.now (form_of c.args.shape.now) c.args.row (c.args.rest - 1) (way_seen c.in-Some.way) c.requires.form (sym c.in-Some.ensures.gives) in ap is_some x.1

pub sealed_at-inner-requires : goal.sealed_at-inner-requires
sealed_at-inner-requires t c =
    let x = row_there c.args.types.now (form_of c.args.shape.now) c.args.row (c.args.rest - 1) (way_seen c.in-Some.way) c.requires.form (sym c.in-Some.ensures.gives) in
    let l = c.in-Some.ensures.leads in
    let a = l.behind in
    let b = l.from in
    let few = c.requires.few in
    let e : x.0 ≡ c.part_row-part.result = some_inj x.0 c.part_row-part.result (sym x.1 ∙ c.part_row-part.ensures) in
    (omega arith, (omega arith, (c.in-Some.ensures.small, subst (λ (r : TypeRow). IsForm c.args.types.now (form_of c.in-Some.way.shape.now) r.kind) e x.2)))

pub returns-in-Some : goal.returns-in-Some
returns-in-Some t c = λ fs ss s.
    let f = form_of c.args.shape.now in
    let cs = cells_of fs c.args.contents.now in
    sealed_more c.args.types.now f c.args.row c.part_row-part.result cs c.args.base c.args.rest (way_seen c.in-Some.way) ss c.both-here.result c.open_at-there.result c.sealed_at-inner.result c.both.result c.either.result
    (omega arith) (sym c.in-Some.ensures.gives) c.part_row-part.ensures s
    (c.both-here.ensures ∙ ap (λ b. c.args.row.konst && b) (c.holds_at.ensures fs ∙ fast_is f cs c.args.base))
    (c.open_at-there.ensures (cs c.args.base) (sym (c.member.ensures fs)))
    (c.sealed_at-inner.ensures fs) c.both.ensures c.either.ensures
