use Rattle.std.proofs.Common.{arith}
use Rattle.cx_record_unions.proofs.Renewing.{cleared_more}
use Rattle.cx_record_unions.proofs.renew.clear.Goals as goal

pub put-requires : goal.put-requires
put-requires c = let i = c.loop-number.invariant in i.2.room c.loop-number.number (c.requires.rooms.room c.loop-number.number (omega arith))

pub loop-number-preserved : goal.loop-number-preserved
loop-number-preserved c =
    let i = c.loop-number.invariant in
    (omega arith, omega arith, cleared_more c.args.from c.loop-number.number c.args.phase c.args.contents.now c.loop-number.contents c.put.new.self i.0 i.2 c.put.ensures)
