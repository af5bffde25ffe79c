use Rattle.std.proofs.Common.{sym, ap, ◌∙◌}
use Rattle.cx_shapes.specs.Forms.{form_of}
use Rattle.cx_records.specs.Checks.{held_member, if_part}
use Rattle.cx_records.proofs.Reading.{held_is}
use Rattle.cx_records.proofs.store.Records.member_at.Goals as goal

pub returns-in-None : goal.returns-in-None
returns-in-None c =
    let m = held_is c.args.self.now.records.items c.args.at c.record.result.now c.found.ensures.rec c.member.result c.record.ensures c.found.ensures.is_rec c.member.ensures in
    record { form = form_of c.found.result.shape.now; there = c.found.result.there; dead = c.found.result.dead; stands = c.found.ensures; is_member = ap (held_member (form_of c.found.result.shape.now)) (sym c.in-None.is ∙ m) }

pub returns-in-None-part_at : goal.returns-in-None-part_at
returns-in-None-part_at c =
    let g = form_of c.found.result.shape.now in
    let m = held_is c.args.self.now.records.items c.args.at c.record.result.now c.found.ensures.rec c.member.result c.record.ensures c.found.ensures.is_rec c.member.ensures in
    record { form = g; there = c.found.result.there; dead = c.found.result.dead; stands = c.found.ensures; is_member = ap (if_part c.in-Some.member) c.in-None-part_at.ensures ∙ ap (held_member g) (sym c.in-Some.is ∙ m) }

pub returns-in-Some-part_at : goal.returns-in-Some-part_at
returns-in-Some-part_at c =
    let g = form_of c.found.result.shape.now in
    let m = held_is c.args.self.now.records.items c.args.at c.record.result.now c.found.ensures.rec c.member.result c.record.ensures c.found.ensures.is_rec c.member.ensures in
    record { form = g; there = c.found.result.there; dead = c.found.result.dead; stands = c.found.ensures; is_member = ap (if_part c.in-Some.member) c.in-Some-part_at.ensures ∙ ap (held_member g) (sym c.in-Some.is ∙ m) }
