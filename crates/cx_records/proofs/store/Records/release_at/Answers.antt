use Rattle.cx_records.proofs.Wholes.{release_done, release_fits, released_is}
use Rattle.cx_records.proofs.store.Records.release_at.Goals as goal

pub returns-clause-changed : goal.returns-clause-changed
returns-clause-changed c = release_done c.args.self.now.records.items c.args.self.now.live c.give_up.new.self.records.items c.give_up.new.self.live c.args.at c.record.result.now c.record.ensures c.if-record.false c.give_up.ensures.given

pub returns-clause-paths : goal.returns-clause-paths
returns-clause-paths c = (released_is c.args.self.now.records.items c.args.self.now.live c.give_up.new.self.records.items c.give_up.new.self.live c.args.at c.give_up.ensures.given).forms

pub returns-clause-fit : goal.returns-clause-fit
returns-clause-fit c = λ t f. release_fits t c.args.self.now.records.items c.args.self.now.live c.give_up.new.self.records.items c.give_up.new.self.live c.args.at c.record.result.now c.record.ensures c.if-record.false c.give_up.ensures.given f
