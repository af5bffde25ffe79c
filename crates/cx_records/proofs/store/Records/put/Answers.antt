use Rattle.std.proofs.Common.{refl}
use Rattle.cx_records.proofs.Placed.{lent}
use Rattle.cx_records.proofs.store.Records.put.Goals as goal

pub returns-clause-written : goal.returns-clause-written
returns-clause-written c = record { rec = c.index_mut-record.result.now; is_rec = lent c.args.self.now.records.items c.args.at.object c.requires.rec c.index_mut-record.result.now c.requires.is_rec c.index_mut-record.ensures.value; now = c.put.new.self; is_new = refl; put = c.put.ensures }
