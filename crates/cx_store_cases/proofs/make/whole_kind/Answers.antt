use Rattle.cx_store_cases.proofs.Made.{whole_kind-none, whole_kind-some}
use Rattle.cx_store_cases.proofs.make.whole_kind.Goals as goal

pub returns-in-Some : goal.returns-in-Some
returns-in-Some c = whole_kind-some c.args.types.now c.args.ty c.args.count c.in-Some.many c.in-Some.is c.requires

pub returns-in-None : goal.returns-in-None
returns-in-None c = whole_kind-none c.args.types.now c.args.ty c.args.count c.row.result c.in-None.is c.row.ensures
