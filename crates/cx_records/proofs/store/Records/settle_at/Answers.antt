use Rattle.cx_records.proofs.Wholes.{settled_is, settled_forms, settled_fits, present_record}
use Rattle.cx_records.proofs.store.Records.settle_at.Goals as goal

pub returns-clause-changed : goal.returns-clause-changed
returns-clause-changed c =
    let rs = c.args.self.now.records.items in
    settled_is rs c.args.at.object c.index_mut-record.result.now c.args.birth (present_record rs c.args.at c.requires.present c.index_mut-record.result.now c.index_mut-record.ensures.value)

pub returns-clause-paths : goal.returns-clause-paths
returns-clause-paths c =
    let rs = c.args.self.now.records.items in
    settled_forms rs c.args.at.object c.index_mut-record.result.now c.args.birth (present_record rs c.args.at c.requires.present c.index_mut-record.result.now c.index_mut-record.ensures.value)

pub returns-clause-fit : goal.returns-clause-fit
returns-clause-fit c =
    let rs = c.args.self.now.records.items in
    λ t f. settled_fits t rs c.args.self.now.live c.args.at c.index_mut-record.result.now c.args.birth (present_record rs c.args.at c.requires.present c.index_mut-record.result.now c.index_mut-record.ensures.value) c.requires.here f
