use Rattle.std.proofs.Common.{refl}
use Rattle.cx_records.proofs.Placed.{lent}
use Rattle.cx_record_unions.proofs.renew.renew_at.Goals as goal

pub returns-clause-written : goal.returns-clause-written
returns-clause-written c = record {
  rec = c.index_mut-record.result.now;
  is_rec = lent c.args.records.now.records.items c.args.at.object c.requires.rooms.rec c.index_mut-record.result.now c.requires.rooms.is_rec c.index_mut-record.ensures.value;
  now = c.renew.new.contents;
  is_new = refl;
  put = c.renew.ensures;
}
