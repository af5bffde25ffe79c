use Rattle.std.proofs.Common.{◌<◌, true, sym, ap, ◌∙◌, arith}
use Rattle.cx_type_defs.specs.Same.{form_of}
use Rattle.cx_lookup.proofs.Rows.{two-open, part-known, by_level, level-parts}
use Rattle.cx_lookup.proofs.convert.+adds_const.Goals as goal

pub returns-in-Settled : goal.returns-in-Settled
returns-in-Settled t c =
    sym (two-open c.args.types.now c.sound.ensures c.args.above c.args.from c.args.to c.row-source.result c.row-target.result c.row-source.ensures c.row-target.ensures
    ∙ ap (by_level (form_of true c.args.types.now)) (sym c.at_level.ensures ∙ c.in-Settled.is))

pub adds_const-requires : goal.adds_const-requires
adds_const-requires t c =
    let p = level-parts c.args.above c.row-source.result c.row-target.result c.in-Below.next c.in-Below.f c.in-Below.t (sym c.at_level.ensures ∙ c.in-Below.is) in
    let f = part-known c.args.types.now c.sound.ensures c.args.from c.row-source.result c.in-Below.f c.row-source.ensures p.0 in
    let g = part-known c.args.types.now c.sound.ensures c.args.to c.row-target.result c.in-Below.t c.row-target.ensures p.1 in
    let older : c.in-Below.t.0 < c.args.to.0 = g.0 in
    (omega (arith, older), (f.1, g.1))

pub returns-in-Below : goal.returns-in-Below
returns-in-Below t c =
    c.adds_const.ensures
    ∙ sym (two-open c.args.types.now c.sound.ensures c.args.above c.args.from c.args.to c.row-source.result c.row-target.result c.row-source.ensures c.row-target.ensures
    ∙ ap (by_level (form_of true c.args.types.now)) (sym c.at_level.ensures ∙ c.in-Below.is))
