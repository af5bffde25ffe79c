use Rattle.cx_records.specs.Records.{objects_of, forms_in, path_in}
use Rattle.cx_state_kept.proofs.Reading.{answer_known, answer_holds}
use Rattle.cx_objects.proofs.store.TreeStoreStore.load.Goals as goal

pub returns-clause-known : goal.returns-clause-known
returns-clause-known c =
    let rs = c.args.self.now.records.records.items in
    answer_known c.args.types.now (objects_of rs) (path_in (forms_in rs)) (path_in (forms_in rs) c.args.at) c.load_at.result c.requires.fits.fit c.requires.known c.load_at.ensures.gives

pub returns-clause-holds : goal.returns-clause-holds
returns-clause-holds c =
    let rs = c.args.self.now.records.records.items in
    answer_holds c.args.types.now (objects_of rs) (path_in (forms_in rs)) (path_in (forms_in rs) c.args.at) c.load_at.result c.requires.fits.fit c.requires.known c.load_at.ensures.gives
