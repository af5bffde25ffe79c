use Rattle.std.proofs.Common.{sym, subst, ◌∙◌}
use Rattle.cx_type_defs.proofs.Lists.{some_inj}
use Rattle.cx_shapes.specs.Forms.{Small}
use Rattle.cx_records.specs.declared.record.Record.{Record}
use Rattle.cx_records.specs.Records.{record_form}
use Rattle.cx_records.proofs.Checking.{numbered}
use Rattle.cx_record_pointers.proofs.Comparing.{met}
use Rattle.cx_record_pointers.proofs.known.meeting_at.Goals as goal

pub part_ways-requires-clause-few : goal.part_ways-requires-clause-few
part_ways-requires-clause-few c = (numbered c.args._types.now c.args.store.now.records.items c.args.store.now.live c.args.a c.requires.fits c.requires.known).within

pub part_ways-requires-clause-few_too : goal.part_ways-requires-clause-few_too
part_ways-requires-clause-few_too c = (numbered c.args._types.now c.args.store.now.records.items c.args.store.now.live c.args.b c.requires.fits c.requires.other).within

pub part_ways-requires-clause-small : goal.part_ways-requires-clause-small
part_ways-requires-clause-small c =
    let n = numbered c.args._types.now c.args.store.now.records.items c.args.store.now.live c.args.a c.requires.fits c.requires.known in
    subst (λ (r : Record). Small (record_form r)) (some_inj n.rec c.record.result.now (sym n.is_rec ∙ c.record.ensures)) n.small

pub returns-then-a-b : goal.returns-then-a-b
returns-then-a-b c =
    met c.args._types.now c.args.store.now.records.items c.args.store.now.live c.args.a c.args.b c.record.result.now c.part_ways.result c.requires.fits c.requires.known c.requires.other
    c.requires.here c.requires.here_too c.if-a-b.true c.record.ensures c.part_ways.ensures
